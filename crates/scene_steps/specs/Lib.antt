pub mod Laws
pub mod Letters
pub mod Picture
pub mod Steps
pub mod Texts
