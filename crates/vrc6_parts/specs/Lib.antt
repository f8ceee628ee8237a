pub mod Checks
pub mod Parts
