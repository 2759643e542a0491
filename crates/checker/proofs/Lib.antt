pub mod Guarded
pub mod Counted
pub mod Verified
pub mod Suiting
pub mod Serving
pub mod Alike
pub mod Kept
pub mod Unchanged
