pub mod Found
pub mod AllOf
pub mod GivenOptions
pub mod UsageReports
pub mod NamedWords
pub mod NearWords
