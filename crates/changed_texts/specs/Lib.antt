pub mod Fixed
pub mod TextFaults
pub mod Versions
pub mod Reading
