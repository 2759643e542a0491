pub mod Rows
pub mod Sector
