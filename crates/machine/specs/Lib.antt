-- The machine (RFC 9669; docs/MACHINE.md).
pub mod Arithmetic
pub mod State
pub mod Memory
pub mod Step
pub mod Outcome
pub mod Laws
pub mod Footprint
pub mod OwnMemory
pub mod Guards
pub mod Operations
pub mod Looks
