pub mod EnumNames
pub mod Loops
pub mod NamedKinds
pub mod Parts
pub mod Spans
pub mod Whole
