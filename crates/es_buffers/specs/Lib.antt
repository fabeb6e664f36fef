pub mod Video
pub mod Buffers
pub mod Stays
