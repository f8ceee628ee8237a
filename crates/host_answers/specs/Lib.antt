pub mod Encoded
pub mod Laws
