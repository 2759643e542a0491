-- Lemmas of the crate.
pub mod Lacking
pub mod Logs
pub mod Plans
pub mod Results
pub mod Between
pub mod Bounds
pub mod Marks
pub mod Stamps
pub mod Numbers
