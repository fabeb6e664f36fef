pub mod ProfileWords
pub mod Notes
pub mod KeyLines
pub mod DescriptionParts
pub mod Fields
pub mod Texts
pub mod Documents
pub mod Laws
