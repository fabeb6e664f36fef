pub mod Contents
pub mod RunLaws
