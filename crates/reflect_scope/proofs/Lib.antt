pub mod Search
pub mod Scopes
pub mod Steps
pub mod Says
pub mod Listed
