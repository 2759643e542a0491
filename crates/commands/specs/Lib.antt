-- What a command answers, and what holds of reports.
pub mod Stored
pub mod Acting
pub mod Knowing
pub mod Exits
pub mod Once
pub mod Laws
pub mod OneAnswer
pub mod Differences
pub mod Parts
pub mod OtherWork
pub mod OfReport
pub mod Largest
pub mod CaseParts
pub mod Records
