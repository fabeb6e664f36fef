pub mod FittingText
pub mod CharacterSteps
