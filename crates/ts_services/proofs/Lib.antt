pub mod LastServices
pub mod ServicePlaces
pub mod FirstNetworks
pub mod NetworkSteps
