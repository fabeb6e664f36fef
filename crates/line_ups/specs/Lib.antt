pub mod Kept
pub mod Faults
pub mod Versions
pub mod Laws
