pub mod Interrupt
pub mod Timing
pub mod Writes
pub mod Laws
