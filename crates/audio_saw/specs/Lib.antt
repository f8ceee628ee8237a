pub mod Saws
pub mod Required
