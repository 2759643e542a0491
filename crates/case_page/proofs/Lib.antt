-- Lemmas of the crate.
pub mod Summed
pub mod CaseTexts
pub mod CaseFlushes
