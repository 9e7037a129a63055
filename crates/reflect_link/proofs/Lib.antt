pub mod Along
pub mod FileNames
pub mod NextPlace
pub mod Steps
