pub mod Named
pub mod ReadOptions
pub mod Declared
pub mod SaysAll
