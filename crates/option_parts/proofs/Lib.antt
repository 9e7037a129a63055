pub mod Copying
pub mod Moves
pub mod OptionTypes
