pub mod Rounding
pub mod Clocks
pub mod WholeTicks
pub mod PcrExamples
pub mod Continuities
pub mod Entries
mod LastPackets
pub mod IntervalExamples
pub mod Members
pub mod Judging
pub mod Counted
mod CountedPids
