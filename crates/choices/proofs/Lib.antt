-- Lemmas of the crate.
pub mod Counts
pub mod Ranks
pub mod Rows
pub mod Following
pub mod Departing
pub mod Plans
pub mod Sums
pub mod Sets
pub mod Order
pub mod CrashModel
pub mod Naming
pub mod Agreeing
pub mod Passing
