-- What the words of a command line ask for.
pub mod Number
pub mod FlushList
pub mod Extents
pub mod Parsed
pub mod Words
pub mod Sized
