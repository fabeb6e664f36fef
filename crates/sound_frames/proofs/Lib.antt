mod FrameSums
mod FrameWalks
mod FrameParts
