-- The board of blocks, and the hands.
pub mod Steps
pub mod Board
pub mod Moves
pub mod Seats
pub mod Deques
pub mod Owned
pub mod Hands
pub mod Meeting
