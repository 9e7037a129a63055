pub mod FieldName
pub mod FieldRecords
pub mod Layers
pub mod MapEntries
pub mod Places
