-- What the crate's contracts cite.
pub mod Table
pub mod Fields
pub mod Spelling
pub mod Faults
pub mod Forms
pub mod Decoding
pub mod Program
pub mod Laws
pub mod Ready
pub mod Running
pub mod Slots
