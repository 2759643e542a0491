-- The failing lines of a run, their parts by blocks, and how parts are collected.
pub mod Failing
pub mod Input
pub mod Least
pub mod Pieces
pub mod Counting
pub mod Table
pub mod Exploring
pub mod Taking
pub mod Crew
pub mod Reuse
pub mod Entries
pub mod Local
pub mod Images
pub mod Laws
pub mod Safe
