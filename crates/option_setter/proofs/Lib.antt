pub mod SaidTexts
pub mod Held
pub mod Refusals
pub mod Parts
