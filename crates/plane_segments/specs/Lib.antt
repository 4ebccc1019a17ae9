pub mod Node
pub mod Segment
