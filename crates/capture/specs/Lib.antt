pub mod Captures
pub mod Reading
pub mod Laws
