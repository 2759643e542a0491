-- What a cut of a log leaves open: its units, its volatile parts, its epoch, the wanted cuts.
pub mod Units
pub mod Parts
pub mod Flushes
pub mod Cuts
pub mod Table
pub mod Touching
pub mod Plan
pub mod Laws
