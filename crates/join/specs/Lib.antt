-- The texts of parts of a run, and what they come to together.
pub mod Printable
pub mod Endings
pub mod Order
pub mod Heads
pub mod Text
pub mod Reading
pub mod Joining
pub mod Rows
pub mod Laws
-- A report that is given in place of programs.
pub mod Given
pub mod GivenReading
-- The texts of runs of any number of losses.
pub mod CaseTexts
pub mod CaseReading
pub mod CaseWalks
pub mod CaseJoining
pub mod CaseRows
pub mod CaseLaws
