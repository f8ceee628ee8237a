pub mod Laws
pub mod Lines
pub mod Moments
pub mod Verdicts
