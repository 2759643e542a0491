pub mod Rising
pub mod Tellings
pub mod Bases
pub mod Titles
