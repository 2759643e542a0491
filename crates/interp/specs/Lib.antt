-- How the interpreter's values say what the machine did.
pub mod Ending
pub mod Going
pub mod Cells
pub mod Reading
pub mod Frames
pub mod Stopping
pub mod Looks
pub mod Accesses
pub mod Walks
pub mod Reaching
