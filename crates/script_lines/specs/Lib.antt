pub mod Errors
pub mod Laws
pub mod Lines
pub mod Readings
pub mod Values
