pub mod Unsetting
pub mod Walking
