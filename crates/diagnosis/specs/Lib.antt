pub mod KeyPlaces
pub mod KeyWords
pub mod KeyTables
pub mod EqualKeys
pub mod FaultLines
pub mod Explained
pub mod TomlNotes
pub mod UnknownWords
