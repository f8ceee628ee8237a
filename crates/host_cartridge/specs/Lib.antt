pub mod Encoded
pub mod Filled
pub mod Laws
