pub mod Entries
pub mod Expands
pub mod Pairwise
pub mod Parts
