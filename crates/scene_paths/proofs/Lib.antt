pub mod Ends
pub mod Folders
pub mod Shown
