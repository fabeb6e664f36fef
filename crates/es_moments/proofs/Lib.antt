mod NextStream
mod MergedUnits
pub mod StampFaults
pub mod StampMoments
pub mod UnitCounts
pub mod PacketRows
pub mod RunLevels
pub mod UnitWeights
pub mod SameIds
pub mod TimeOrder
pub mod MadeDts
pub mod ApartUnits
pub mod RisingDts
pub mod UnitMoments
