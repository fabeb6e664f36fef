pub mod Tables
pub mod Parts
pub mod Carousels
pub mod Laws
pub mod Payloads
