pub mod Place
pub mod Setup
pub mod Session
pub mod Answers
pub mod SessionReader
pub mod SessionFault
