pub mod Extremes
pub mod Counts
pub mod PositionLemmas
pub mod Gaps
pub mod Spread
pub mod WorkLemmas
pub mod Recurrence
pub mod SwitchLemmas
pub mod PartLemmas
mod Examples
