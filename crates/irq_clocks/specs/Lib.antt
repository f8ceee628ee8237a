pub mod Clocks
pub mod Laws
