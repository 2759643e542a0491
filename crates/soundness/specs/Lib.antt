-- What the tables of the verifier say of the machine, and how runs of accepted programs end.
pub mod Meaning
pub mod Machines
pub mod Callers
pub mod Reaching
pub mod Laws
pub mod Ending
pub mod Accepted
pub mod Worked
pub mod GuardedTables
pub mod Guards
