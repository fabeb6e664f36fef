pub mod NamedStreams
pub mod Mapped
pub mod Laws
pub mod ServiceNames
