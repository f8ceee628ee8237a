pub mod Banks
pub mod Counter
pub mod Laws
pub mod Letters
pub mod Rises
pub mod Scenes
pub mod Sweeps
