pub mod PlanReaders
