pub mod Clearing
pub mod Ranks
pub mod Rows
pub mod Screens
pub mod Waiting
