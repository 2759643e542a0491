pub mod Contents
pub mod Kinds
pub mod Logs
pub mod PartTexts
pub mod RawLogs
pub mod Reads
pub mod Sized
pub mod Standing
