-- What records of a program of the user's tell of a log.
pub mod Asked
pub mod Number
pub mod Totals
pub mod Text
pub mod Lines
pub mod Blind
pub mod Imaged
pub mod Told
pub mod Searched
pub mod Wanted
pub mod Showing
