pub mod Services
pub mod Trees
pub mod Values
pub mod Pages
pub mod SummaryText
pub mod FaultTables
pub mod PageText
