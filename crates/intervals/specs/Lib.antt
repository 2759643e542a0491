-- Ranges of numbers (docs/VERIFIER.md, Abstract values to Branches).
pub mod Spans
pub mod Rounding
pub mod Operators
pub mod Results
pub mod Edges
pub mod Seen
pub mod SignedSpans
pub mod Reducing
pub mod SignedRounding
pub mod SignedResults
pub mod SignedEdges
pub mod SeenSigned
pub mod SeenBounds
pub mod Laws
pub mod LimitLaws
