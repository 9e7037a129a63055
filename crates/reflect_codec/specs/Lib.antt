pub mod Faults
pub mod Fields
pub mod Held
pub mod Meaning
pub mod Raw
pub mod Reading
pub mod Written
