-- What is said of programs and logs.
pub mod Line
pub mod Listing
pub mod Device
pub mod Known
pub mod SourceLines
-- What notes say of an accepted program.
pub mod Unreached
pub mod Large
pub mod LeftOut
pub mod Untold
pub mod Breach
pub mod Blind
pub mod Promises
pub mod Forced
pub mod NoCuts
