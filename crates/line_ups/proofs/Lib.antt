pub mod Numbers
pub mod Repeats
pub mod KeptSlots
pub mod Kept
pub mod Followed
