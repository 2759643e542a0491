-- The choices at the cuts of a log, in their order: by numbers, and of a plan.
pub mod Picks
pub mod Ways
pub mod Seeks
pub mod Steps
pub mod Choices
pub mod CrashModel
pub mod Laws
pub mod Sums
pub mod Named
pub mod Seeking
pub mod Numbers
pub mod Picked
