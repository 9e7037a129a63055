pub mod Clones
pub mod FieldNumbers
pub mod Messages
