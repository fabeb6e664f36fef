pub mod Sections
pub mod HeaderTables
pub mod TablePackets
