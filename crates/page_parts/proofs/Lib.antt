-- Lemmas of the crate.
pub mod Rows
pub mod Markup
pub mod Labels
pub mod NoWindow
