pub mod Content
pub mod Empty
pub mod FieldNumbers
