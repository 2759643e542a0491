-- Lemmas on hands, events and whole runs.
pub mod Agreement
pub mod Each
pub mod Late
pub mod Places
pub mod Sound
pub mod Whole
pub mod May
