pub mod CutBytes
pub mod KnownSteps
