-- What a checker is, and what it answers.
pub mod Checker
pub mod Footprints
pub mod Guards
pub mod Memory
