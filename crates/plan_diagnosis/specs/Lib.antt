pub mod ItemNames
pub mod ReasonLines
pub mod ConditionLines
