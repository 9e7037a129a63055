pub mod NameGrammar
pub mod Negation
pub mod OptionGrammar
pub mod RangeGrammar
