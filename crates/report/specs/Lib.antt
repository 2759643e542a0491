-- The bytes of the report.
pub mod Text
pub mod Report
pub mod Part
pub mod Reading
pub mod ChoiceText
pub mod Words
-- The failing lines of a run.
pub mod Line
pub mod LineValues
pub mod Images
pub mod LineText
pub mod Kept
pub mod Marks
pub mod MarkReading
