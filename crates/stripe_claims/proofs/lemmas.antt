pub mod Counts
pub mod Fair
pub mod Moves
pub mod Gathers
