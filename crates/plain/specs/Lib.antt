-- The plain machine, how it agrees with the machine, and its runs.
pub mod Machine
pub mod Clean
pub mod Callers
pub mod Blocks
pub mod Kept
pub mod Steps
pub mod Reads
pub mod Guarded
pub mod Guards
pub mod Runs
pub mod Laws
