pub mod CopiedBytes
pub mod CallerLemmas
pub mod KeptSectors
pub mod Summed
pub mod Queries
