pub mod Fill
pub mod Fnv
pub mod Laws
