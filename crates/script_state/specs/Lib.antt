pub mod Channels
pub mod Laws
pub mod Told
pub mod Values
