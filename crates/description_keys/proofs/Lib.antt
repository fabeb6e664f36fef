pub mod Quotients
pub mod KeyTables
