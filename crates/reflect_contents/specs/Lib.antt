pub mod EntriesLeft
pub mod Left
pub mod Walked
