pub mod Clocks
pub mod Feeding
pub mod Maps
pub mod Origins
pub mod Restarts
pub mod Ticks
