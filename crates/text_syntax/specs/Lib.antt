pub mod Examples
pub mod Syntax
pub mod Beginning
