pub mod Behind
pub mod Choices
mod Minus
pub mod NameLaws
pub mod OptionLaws
pub mod RangeLaws
pub mod Turns
