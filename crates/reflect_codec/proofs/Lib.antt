pub mod Levels
pub mod Messages
pub mod Parts
pub mod Spelled
pub mod Truth
pub mod Unique
pub mod Values
