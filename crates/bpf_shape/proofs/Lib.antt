pub mod Ranges
pub mod Walks
pub mod Meeting
pub mod Searching
pub mod Kept
pub mod Chained
pub mod Partial
pub mod Longest
pub mod Weighing
pub mod Budgets
mod Whole
