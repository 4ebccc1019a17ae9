pub mod Extent
pub mod Round
pub mod Loading
