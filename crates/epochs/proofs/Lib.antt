-- Lemmas of the crate: how parts grow from cut to cut, the rows of the table, the search in it.
pub mod Parts
pub mod Growth
pub mod Rows
pub mod Search
pub mod Wanted
pub mod Runs
pub mod Whole
pub mod Sets
pub mod Contents
pub mod CutSets
pub mod Touching
