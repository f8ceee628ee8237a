pub mod Channels
pub mod Ranges
pub mod Required
