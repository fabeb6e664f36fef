pub mod CharacterTables
pub mod Texts
