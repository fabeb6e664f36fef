pub mod CutLists
pub mod JumpLists
pub mod MapLists
pub mod MovedFindings
pub mod PartOrder
