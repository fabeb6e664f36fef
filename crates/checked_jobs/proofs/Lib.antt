pub mod LongerJobs
pub mod UnitLists
pub mod JobTaking
pub mod MuxJobs
pub mod MuxOutcomes
