pub mod FieldGrammar
pub mod PlainView
pub mod StatementGrammar
