pub mod CarriedUnits
pub mod MovedUnits
pub mod KeptDeclarations
pub mod QueueAcceptance
pub mod UnitWarnings
pub mod Conservation
pub mod ApartSteps
pub mod UnitSteps
pub mod TakenUnits
pub mod PidPlaces
mod TypedPids
pub mod MarkedFindings
