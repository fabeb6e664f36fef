pub mod Elements
pub mod AndThen
mod MapWarnings
pub mod Each
pub mod FrameSums
pub mod Steps
mod NetworkSteps
pub mod KeptDts
