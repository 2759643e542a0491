-- The jobs of a run, and what is said of them.
pub mod Jobs
pub mod Laws
