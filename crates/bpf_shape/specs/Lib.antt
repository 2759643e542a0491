-- The shape of a program: its edges, the rules about them, its longest path and its budget.
pub mod Fault
pub mod Edges
pub mod Calls
pub mod Again
pub mod Paths
pub mod Chains
pub mod Weights
pub mod Budget
pub mod Rules
pub mod Shape
pub mod Keeping
pub mod Search
pub mod Lengths
pub mod Laws
