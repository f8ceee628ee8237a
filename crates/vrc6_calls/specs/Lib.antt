pub mod Lists
pub mod Stepping
