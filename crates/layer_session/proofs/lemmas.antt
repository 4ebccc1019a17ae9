pub mod Images
pub mod Inputs
pub mod Lengths
pub mod OneAnswer
pub mod Placed
pub mod Pngs
pub mod Texts
pub mod Told
