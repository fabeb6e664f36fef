pub mod Entries
pub mod Packets
pub mod ClockedPackets
pub mod Tables
pub mod NewFramings
mod OpenSections
