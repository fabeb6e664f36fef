pub mod Rows
pub mod Lines
pub mod Clocks
pub mod Examples
pub mod HeldBytes
pub mod Steps
pub mod Stamps
