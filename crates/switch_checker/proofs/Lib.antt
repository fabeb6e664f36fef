pub mod SwitchEntries
pub mod SwitchGaps
