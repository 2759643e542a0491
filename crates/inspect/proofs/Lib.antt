-- Lemmas of `looks`.
pub mod Counts
pub mod EvenParts
pub mod CutParts
pub mod CutPieces
pub mod CutRuns
pub mod Risks
pub mod Refused
pub mod Texts
pub mod Printed
pub mod Short
pub mod Meant
pub mod AnyTold
pub mod AnyShown
-- Lemmas on images, on runs and their lines, and on refusals.
pub mod Images
pub mod Steps
pub mod Lines
pub mod Changes
pub mod TrialRefused
