pub mod Leaps
pub mod LineUps
pub mod Airing
pub mod Courses
pub mod AirStates
pub mod Hearing
pub mod Laws
pub mod EndlessRuns
