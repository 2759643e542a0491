pub mod CallerLemmas
pub mod Mixes
pub mod Sectors
