pub mod PidCounts
pub mod SectionSteps
pub mod TableSteps
