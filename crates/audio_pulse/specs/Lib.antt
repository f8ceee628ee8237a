pub mod Pulses
pub mod Required
