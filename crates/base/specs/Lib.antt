-- What the crate's contracts cite, and the words of the layers above.
pub mod Check
pub mod Refusals
pub mod Numbers
pub mod Causes
pub mod Sizes
