pub mod KeyRows
pub mod EqualRows
pub mod Explained
