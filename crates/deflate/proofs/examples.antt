pub mod Limits
pub mod Sums
pub mod Streams
pub mod Codes
