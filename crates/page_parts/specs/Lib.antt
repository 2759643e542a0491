-- What pages have in common.
pub mod Html
pub mod Judges
pub mod Pieces
pub mod Counts
pub mod Shares
pub mod Lacking
pub mod Entries
pub mod Cells
pub mod Blocks
pub mod Cuts
pub mod Frame
pub mod Laws
