pub mod Active
pub mod EdgeTable
pub mod Linker
pub mod Loops
pub mod Outlines
pub mod Laws
pub mod Sweep
