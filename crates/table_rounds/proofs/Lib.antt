pub mod SectionParts
pub mod Places
pub mod CarouselSteps
pub mod SilentTables
pub mod CarriedBytes
pub mod SectionStarts
