pub mod Extents
pub mod Faults
pub mod Reading
pub mod Rounds
