pub mod Single
pub mod Decimal
pub mod Binary
pub mod BinaryFault
pub mod Reading
