mod JobInputs
mod AskedMarks
mod NewPlaces
pub mod NewNumbersApart
mod NewNumbersBecome
mod InputStreams
mod FirstWhy
mod LackingPrograms
pub mod MovedInputs
pub mod ClockConstants
mod JoinedSteps
pub mod JoinedStreams
mod JoinedApart
