pub mod Cubes
pub mod Turns
