pub mod Cartridges
