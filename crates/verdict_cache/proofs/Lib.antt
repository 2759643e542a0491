-- Lemmas of the crate.
pub mod Telling
pub mod Listed
pub mod Truth
