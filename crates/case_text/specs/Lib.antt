-- The text of cases.
pub mod Known
pub mod Collected
pub mod Window
pub mod Text
pub mod First
pub mod Causes
pub mod Why
pub mod Cured
pub mod Counts
pub mod Laws
