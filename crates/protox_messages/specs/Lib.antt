pub mod MessageGrammar
