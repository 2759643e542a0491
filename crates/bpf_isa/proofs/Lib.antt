pub mod Table
pub mod Bytes
pub mod Faults
pub mod Slots
pub mod Listing
pub mod Forms
pub mod Unique
pub mod Records
