pub mod SharedClocks
pub mod Transponders
pub mod Texts
pub mod Rates
pub mod CarriedLoops
pub mod Jobs
pub mod WhyNoJob
