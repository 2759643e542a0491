-- What an assembly text says, and how a program is listed.
pub mod Parts
pub mod Words
pub mod Mnemonics
pub mod Operands
pub mod Reads
pub mod Statements
pub mod Says
pub mod Outlines
pub mod Listing
pub mod Laws
