-- Lemmas of the crate.
pub mod Departing
pub mod Rows
pub mod Taken
pub mod Owned
