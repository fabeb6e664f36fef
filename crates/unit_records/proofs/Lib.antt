pub mod RecordWords
pub mod RecordReading
pub mod RecordBytes
pub mod RecordTaking
pub mod RecordFound
