pub mod CapturedParts
pub mod Pieces
pub mod Viewed
pub mod Drawn
pub mod PlanDrawings
pub mod NamedStreams
