pub mod After
pub mod Marking
