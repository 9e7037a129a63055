pub mod Appending
pub mod Fronts
pub mod Rows
