pub mod Tables
pub mod Required
pub mod Laws
