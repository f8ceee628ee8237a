pub mod Contents
pub mod Quoting
pub mod RoundTrip
pub mod Rows
pub mod Spacing
pub mod Splits
pub mod Walking
