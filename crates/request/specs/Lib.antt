-- What is asked of a run or of a log, and what is read of it.
pub mod Places
pub mod Extents
pub mod Settings
pub mod OptionWords
pub mod AnyLosses
pub mod Known
pub mod Trials
pub mod Source
pub mod Refusals
pub mod Inputs
pub mod FaultLine
-- What notes say of logs, programs and runs.
pub mod Large
pub mod Flushes
pub mod Forced
pub mod Promises
pub mod Search
pub mod Fewer
pub mod LogFacts
pub mod Breach
pub mod Found
