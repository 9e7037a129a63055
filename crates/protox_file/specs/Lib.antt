pub mod FileGrammar
pub mod Languages
pub mod Sources
pub mod OlderGrammar
