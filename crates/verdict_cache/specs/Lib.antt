-- What a shard of the verdict cache holds, and what its calls make of it.
pub mod Endings
pub mod Shard
pub mod Puts
pub mod Sizes
pub mod Laws
