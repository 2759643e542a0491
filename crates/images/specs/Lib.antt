-- The crash images of a log.
pub mod Images
pub mod Views
pub mod Table
pub mod Whole
pub mod Keys
pub mod Contents
pub mod Changes
pub mod Number
pub mod Equal
pub mod Covering
pub mod Laws
