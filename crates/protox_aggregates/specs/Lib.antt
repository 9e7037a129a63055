pub mod AggregateGrammar
pub mod BraceTexts
