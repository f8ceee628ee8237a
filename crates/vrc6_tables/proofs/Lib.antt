pub mod Numbers
pub mod Regions
pub mod Mapped
pub mod Windows
pub mod Entries
pub mod Counts
pub mod Nothing
