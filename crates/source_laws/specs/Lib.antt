pub mod TreeNames
pub mod Spanned
