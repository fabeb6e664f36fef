pub mod Watched
pub mod Gaps
pub mod GapEvents
pub mod ClockDrifts
pub mod ClockWindows
pub mod Laws
pub mod Waiting
