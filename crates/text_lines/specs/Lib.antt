pub mod Added
pub mod Forms
pub mod Pieces
pub mod UnknownTexts
