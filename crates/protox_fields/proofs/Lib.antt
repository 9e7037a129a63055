pub mod FieldLaws
pub mod FieldParts
pub mod Flat
pub mod Heads
pub mod NumberedName
mod StatementLaws
