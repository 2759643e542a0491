-- What the helpers answer, over a device as the list of its sectors.
pub mod Answers
pub mod Sums
pub mod Queries
pub mod Helper
pub mod Filled
pub mod Footprint
