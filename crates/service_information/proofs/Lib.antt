pub mod FirstPackets
pub mod EventSteps
pub mod TimeSteps
