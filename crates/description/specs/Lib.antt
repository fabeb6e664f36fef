pub mod Reading
pub mod SectionBytes
pub mod SubTables
pub mod Versions
pub mod Pids
pub mod Entries
pub mod Services
pub mod Networks
