pub mod Runs
pub mod Forecasts
pub mod Gains
pub mod Board
