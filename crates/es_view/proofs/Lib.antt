pub mod Frames
pub mod Payloads
pub mod Framings
pub mod MainNow
pub mod Leaks
