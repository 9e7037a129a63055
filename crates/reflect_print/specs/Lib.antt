pub mod Errors
pub mod MessageTexts
pub mod Named
pub mod Written
