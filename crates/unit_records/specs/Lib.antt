pub mod Records
pub mod RecordParts
pub mod Codes
pub mod Laws
pub mod OpenRecords
