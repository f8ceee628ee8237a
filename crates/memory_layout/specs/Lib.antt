pub mod Layout
pub mod Entries
pub mod Required
pub mod Laws
