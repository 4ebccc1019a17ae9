pub mod InsideOut
pub mod Orders
pub mod Slabs
pub mod Moves
pub mod Shells
pub mod Boxes
pub mod QuarterTurns
