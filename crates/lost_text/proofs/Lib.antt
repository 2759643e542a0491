pub mod AnyNames
pub mod LostParts
pub mod Matching
pub mod Printing
pub mod LostSaid
