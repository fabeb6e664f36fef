pub mod Turns
pub mod LineUpRuns
pub mod TakenOver
