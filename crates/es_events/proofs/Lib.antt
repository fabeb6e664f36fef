pub mod Videos
pub mod Joins
