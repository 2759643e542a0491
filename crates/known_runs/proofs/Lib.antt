pub mod Lining
pub mod Counting
pub mod Placing
pub mod Running
pub mod Telling
pub mod Imaging
pub mod Showing
