pub mod Escaped
pub mod LogTable
pub mod Rows
pub mod Sectors
pub mod Cut
pub mod Shown
pub mod AnyShown
