-- Records of a program as a text.
pub mod Ranges
pub mod Records
pub mod Reading
pub mod Texts
pub mod Pieces
