mod Explained
pub mod TextRecords
pub mod NextFronts
