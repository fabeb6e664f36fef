pub mod Events
mod Settling
