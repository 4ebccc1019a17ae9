pub mod examples
pub mod Asked
pub mod Matching
pub mod Parse
pub mod Rows
pub mod TaskLemmas
pub mod TextLemmas
