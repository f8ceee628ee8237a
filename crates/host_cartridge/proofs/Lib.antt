pub mod Runs
pub mod Loading
pub mod Boards
