pub mod Finding
pub mod Index
pub mod Ranges
pub mod Furthest
pub mod Types
pub mod Views
pub mod Names
pub mod ExtensionNumbers
