pub mod WarningLines
pub mod Carrying
pub mod JobFindings
pub mod JobOutcomes
pub mod Readings
mod StreamFiles
mod Reported
