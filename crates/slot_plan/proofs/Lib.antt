pub mod WordReaders
pub mod Clocks
pub mod HeldConditions
pub mod BaseService
pub mod NumberedLists
pub mod ReaderSteps
pub mod ConditionLists
pub mod ItemConditions
pub mod NamedSlots
pub mod PeakWords
pub mod TextLines
pub mod TextLists
pub mod TextPlans
pub mod SlotPids
mod Rows
pub mod EmptySlots
pub mod EmptyQueues
pub mod EmptyPlans
pub mod LeastGaps
mod SectionPlaces
mod SectionsApart
pub mod OnePlan
pub mod OwnSlotsInTurn
pub mod TwoPlans
pub mod Waiting
mod PeriodLinks
