pub mod Both
mod Left
pub mod Lexical
pub mod Lists
pub mod Local
pub mod Loops
pub mod Steps
