pub mod Values
pub mod Moments
pub mod KnownKeys
