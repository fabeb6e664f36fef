pub mod Rows
pub mod Lines
pub mod Clock
pub mod ByteLines
pub mod Laws
pub mod Arrivals
pub mod ArrivalClocks
pub mod StampClocks
