pub mod Refusals
pub mod Served
pub mod SentBytes
pub mod Failing
pub mod EmptyWalks
pub mod OwnWalks
