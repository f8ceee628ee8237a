pub mod Rule
pub mod Required
pub mod Rings
pub mod Laws
