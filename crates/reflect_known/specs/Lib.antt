pub mod KnownNames
pub mod GivenNames
pub mod DeclaredNames
