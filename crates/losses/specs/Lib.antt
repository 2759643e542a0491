-- Groups of failing choices.
pub mod FirstParts
pub mod Keys
pub mod Folded
pub mod FirstPartLaws
-- Where a flush would take failing images away.
pub mod Windows
pub mod Places
pub mod Counted
pub mod WindowLaws
-- Why a program fails.
pub mod CountedGroups
pub mod Failures
pub mod GroupLaws
pub mod WhyText
pub mod Causes
-- What programs end in.
pub mod ProgramOutcomes
-- What a cure is.
pub mod FailureWindows
pub mod Printed
pub mod CureText
-- The failing cases of any number of losses.
pub mod FoundCases
