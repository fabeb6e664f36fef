pub mod ServiceDescriptions
pub mod Services
pub mod ServicePlaces
pub mod Networks
pub mod NetworkInformation
