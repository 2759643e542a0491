-- What the commands show that run no program.
pub mod Which
pub mod Image
pub mod AnyImage
pub mod Export
pub mod Layout
pub mod Survey
pub mod CutLayout
pub mod CutParts
pub mod CutSurvey
pub mod Table
pub mod Import
pub mod Assembly
pub mod Verifying
-- One run of a program on one image, told step by step.
pub mod TrialImage
pub mod Trace
pub mod TrialText
