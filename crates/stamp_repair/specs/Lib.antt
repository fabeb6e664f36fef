pub mod PesStamps
pub mod LoneStamps
pub mod LoneLaws
pub mod References
pub mod DataTimes
pub mod TextLaws
