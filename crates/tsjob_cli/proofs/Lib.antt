pub mod StreamedUnits
pub mod Explaining
pub mod NextTexts
mod FileWords
pub mod MadeJobs
mod Commands
mod NamedFiles
