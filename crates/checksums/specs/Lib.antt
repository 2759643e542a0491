-- Checksums by a polynomial.
pub mod Checksum
pub mod Tables
pub mod Laws
