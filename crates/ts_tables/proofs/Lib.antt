pub mod Grows
pub mod MappedPrograms
pub mod First
