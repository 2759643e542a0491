-- Failing cases as a page for a browser.
pub mod Counts
pub mod CaseRows
pub mod CasePage
pub mod CaseFlushes
