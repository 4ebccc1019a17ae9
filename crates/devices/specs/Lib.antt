pub mod Devices
pub mod Transcript
pub mod Sent
