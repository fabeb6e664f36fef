pub mod FaultRows
pub mod BufferFigures
pub mod Verdicts
pub mod SyncRuns
pub mod Summaries
pub mod Laws
