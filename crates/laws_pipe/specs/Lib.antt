pub mod PipedJobs
pub mod PipedFiles
pub mod StreamedUnits
pub mod AiredAsMuxed
