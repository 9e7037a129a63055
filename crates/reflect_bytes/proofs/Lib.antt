pub mod Appended
pub mod Refused
