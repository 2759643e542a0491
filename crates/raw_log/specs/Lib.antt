-- What a raw log is, the first fault of one that can't be imported, and what is imported of it.
pub mod Raw
pub mod Faults
pub mod Header
pub mod Imported
pub mod Laws
