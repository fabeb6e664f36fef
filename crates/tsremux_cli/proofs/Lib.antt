mod ByHand
mod Remuxed
mod UnkeptFrames
mod Written
