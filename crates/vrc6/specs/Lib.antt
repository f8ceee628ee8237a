pub mod Boards
pub mod Checks
pub mod Calls
