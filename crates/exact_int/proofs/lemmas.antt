pub mod Laws
pub mod Ring
pub mod Sizes
pub mod Identity
pub mod Signs
pub mod Tests
pub mod Ceilings
pub mod Lists
