-- What a log is: the flags of an entry, the text of a log, the first fault of a text that is none.
pub mod Flags
pub mod Bounds
pub mod LogText
pub mod Faults
pub mod Header
pub mod Flushed
pub mod Initial
pub mod Laws
