pub mod Devices
pub mod BlindTexts
pub mod LinesOfC
