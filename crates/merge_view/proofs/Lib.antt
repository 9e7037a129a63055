pub mod Cloned
pub mod Copied
pub mod Elements
pub mod Entries
pub mod Merged
pub mod Trees
pub mod Shaped
pub mod Suiting
pub mod Decoded
mod Example
