pub mod Arrays
pub mod Reading
pub mod ArrayFault
