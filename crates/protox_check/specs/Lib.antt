pub mod Faults
pub mod FieldOptions
pub mod Fields
pub mod Ranges
pub mod Texts
pub mod Words
