pub mod Fields
pub mod TextParts
