pub mod Limits
pub mod Meshes
pub mod Rays
