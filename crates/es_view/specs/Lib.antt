pub mod LastPayloads
pub mod HeldEvents
pub mod EntryFrames
pub mod Entries
pub mod Crowding
