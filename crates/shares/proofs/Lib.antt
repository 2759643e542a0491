-- The proofs of the board rule, of what seats know, and of the hands.
pub mod Lists
pub mod Moves
pub mod Ends
pub mod Seats
pub mod Deques
pub mod Takes
pub mod Reunion
pub mod Crossing
