pub mod Differences
pub mod Sameness
pub mod TextLaws
pub mod Counts
pub mod VersionLaws
pub mod NextTexts
pub mod TextBytes
