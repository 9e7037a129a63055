pub mod PlainRecords
pub mod Kinds
pub mod SaidOptions
pub mod SourceOptions
