pub mod Linear
pub mod Entries
pub mod Blocks
