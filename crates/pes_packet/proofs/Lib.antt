pub mod Sixteen
pub mod StampFields
pub mod HeaderFields
pub mod Written
pub mod LongerRead
pub mod Payloads
pub mod UnitPieces
