pub mod Forms
pub mod Expansions
pub mod InBytes
pub mod Readable
pub mod Told
pub mod Walked
