pub mod Runs
pub mod Counts
