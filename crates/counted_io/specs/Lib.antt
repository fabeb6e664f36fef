pub mod Device
pub mod Counters
pub mod Limits
