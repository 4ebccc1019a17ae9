pub mod Command
pub mod Matches
pub mod Options
pub mod Task
pub mod Texts
pub mod WordFault
pub mod Words
