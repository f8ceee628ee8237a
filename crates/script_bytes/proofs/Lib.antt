pub mod Filling
pub mod Rows
