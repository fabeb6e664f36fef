pub mod KnownFrames
pub mod Pieces
pub mod CutPackets
pub mod Laws
