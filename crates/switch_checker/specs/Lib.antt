pub mod SwitchShares
pub mod Followed
