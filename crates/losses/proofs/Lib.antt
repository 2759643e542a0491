-- Lemmas of `groups`.
pub mod Parts
pub mod Keyed
pub mod Progress
pub mod Folds
pub mod Starts
pub mod Walked
pub mod Counting
pub mod Fewest
pub mod Summed
pub mod Away
pub mod Same
pub mod Added
pub mod Elsewhere
-- Lemmas of `why`.
pub mod Between
pub mod Ordered
pub mod GroupCounting
pub mod Sames
pub mod Collected
pub mod Standing
pub mod Shown
pub mod Causes
-- Lemmas of `outcomes`.
pub mod Plain
pub mod Words
pub mod Read
-- Lemmas of `cure`.
pub mod Newlines
pub mod Windows
pub mod Fewer
pub mod Told
