pub mod Ends
pub mod Runs
pub mod Statuses
pub mod Tasks
pub mod Texts
