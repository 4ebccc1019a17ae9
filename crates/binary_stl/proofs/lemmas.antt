pub mod Rounding
pub mod Coordinates
pub mod Decimals
pub mod Places
pub mod OneOutcome
pub mod SomeOutcome
pub mod Answer
