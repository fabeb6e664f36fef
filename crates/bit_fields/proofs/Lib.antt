pub mod Bind
pub mod ByteLists
pub mod Fields
