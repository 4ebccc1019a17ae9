pub mod Coordinates
pub mod Limits
