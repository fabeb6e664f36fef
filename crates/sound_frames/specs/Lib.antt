pub mod FrameHeaders
pub mod Frames
pub mod FrameSizes
pub mod FrameWalks
