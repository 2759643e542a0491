pub mod Ending
pub mod Said
