pub mod Access
pub mod Required
pub mod Laws
