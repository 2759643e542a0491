-- Crash images as a page for a browser.
pub mod Counts
pub mod Groups
pub mod Page
pub mod Failing
pub mod Laws
