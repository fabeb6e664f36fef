pub mod Examples
pub mod MinMax
pub mod Fullness
pub mod Departures
pub mod Tandem
pub mod Peak
pub mod Scale
