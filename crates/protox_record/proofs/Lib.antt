pub mod Apart
pub mod Imports
pub mod OneFile
