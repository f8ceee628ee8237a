pub mod Ines
pub mod Laws
pub mod Examples
