pub mod Job
pub mod Layer
pub mod Piece
pub mod Places
pub mod Book
pub mod Build
pub mod Promise
