pub mod Numerals
pub mod TakenInput
pub mod Performances
pub mod ReportedTexts
pub mod NamedReaders
pub mod SavedFiles
