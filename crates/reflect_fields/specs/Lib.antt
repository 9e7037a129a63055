pub mod FieldDefaults
pub mod Fields
