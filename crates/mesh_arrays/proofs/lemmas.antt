pub mod OneOutcome
pub mod SomeOutcome
