pub mod Sees
pub mod Marks
pub mod Means
pub mod Words
pub mod Says
pub mod Seen
pub mod Known
pub mod FileIndexes
