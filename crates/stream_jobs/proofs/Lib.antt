pub mod Agreement
mod TableAgreement
pub mod LoopAgreement
mod WholeAgreement
pub mod JobUnits
mod TriedRates
pub mod JoinedUnits
pub mod Transponders
