pub mod Sections
pub mod Association
pub mod ProgramLists
pub mod ProgramMaps
pub mod MapPlaces
pub mod KnownTables
