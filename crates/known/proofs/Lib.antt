-- Lemmas of records.
pub mod Telling
pub mod Counting
pub mod Meeting
pub mod Going
pub mod Reaching
pub mod Contrary
pub mod Truth
pub mod Once
pub mod Rounds
