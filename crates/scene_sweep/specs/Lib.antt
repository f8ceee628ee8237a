pub mod Bars
pub mod Letters
pub mod Runs
pub mod Spans
pub mod Swept
pub mod Tallies
