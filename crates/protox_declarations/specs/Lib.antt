pub mod EnumGrammar
pub mod ServiceGrammar
