pub mod Parts
pub mod SettledParts
pub mod SyncParts
