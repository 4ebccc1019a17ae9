pub mod BoxBuild
pub mod Limits
