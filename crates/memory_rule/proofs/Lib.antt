pub mod Filling
pub mod Banks
pub mod Remainders
pub mod Turned
pub mod Shown
pub mod Unwrapped
