-- The text of a choice of any number of the parts at risk.
pub mod AnyNames
pub mod Lost
pub mod Said
