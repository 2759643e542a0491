mod Failing
mod Listed
pub mod Runs
