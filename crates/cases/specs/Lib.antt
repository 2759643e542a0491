-- Any number of losses: what may become of each part at a cut, cases, the tree that finds them, and the search for its leaves.
pub mod Risk
pub mod Choices
pub mod Rows
pub mod Cases
pub mod Trees
pub mod Laws
pub mod Sets
pub mod AtCut
pub mod Table
pub mod Lent
pub mod Search
pub mod Once
pub mod Known
