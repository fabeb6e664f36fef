pub mod StructureSearch
pub mod RbspBytes
pub mod SeiPlaces
pub mod Elements
pub mod ScalingLists
