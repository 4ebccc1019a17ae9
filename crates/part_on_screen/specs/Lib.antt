pub mod Turned
pub mod Pitch
pub mod Screen
pub mod Stretched
pub mod Middle
pub mod ScreenFault
pub mod Stands
