pub mod Moves
pub mod OptionTypes
pub mod Places
pub mod Texts
pub mod TypedOptions
