pub mod Spelled
pub mod Written
pub mod Texts
