pub mod UncutUnits
pub mod FedUnits
pub mod ListedStreams
pub mod FedMaps
pub mod FedTicks
