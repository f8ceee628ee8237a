pub mod Codes
pub mod Pictured
pub mod Ranges
pub mod Rows
