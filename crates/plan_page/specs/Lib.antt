pub mod Owners
pub mod PlanItems
pub mod Lanes
pub mod SlotLists
pub mod ItemRows
pub mod PageText
