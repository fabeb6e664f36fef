pub mod Positions
pub mod CivilTimes
pub mod TimeShape
pub mod HexBytes
pub mod Elements
pub mod MemberKeys
pub mod Octets
pub mod TextLengths
