pub mod Codes
pub mod Stream
pub mod Laws
pub mod FoundSoFar
pub mod StreamBodies
pub mod KeptBodies
