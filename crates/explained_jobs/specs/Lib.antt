pub mod UnitWords
pub mod JobWords
pub mod FaultLines
pub mod TextWords
pub mod TextAnswers
pub mod TextRecords
pub mod NextFronts
pub mod LineUpWords
