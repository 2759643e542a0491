-- The crash images of a log as a text, each by the sectors in which it differs.
pub mod Export
pub mod Laws
pub mod Kept
pub mod Streaming
