pub mod Filed
pub mod Laws
pub mod Singles
pub mod Words
