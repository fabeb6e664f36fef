pub mod OtherTables
pub mod PidCounts
pub mod TableKinds
pub mod SteadySections
