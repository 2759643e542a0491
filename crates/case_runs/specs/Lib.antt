-- Checkers as judges of cases.
pub mod Images
pub mod Judges
pub mod Leaves
pub mod Laws
pub mod Found
pub mod Pieces
pub mod Shares
pub mod First
pub mod Walk
pub mod Cuts
pub mod AnyLoss
