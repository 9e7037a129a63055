pub mod StoredOptions
pub mod CopiedOptions
pub mod SetOptions
pub mod NamedNumbers
pub mod Standing
pub mod Braces
pub mod ToldAlike
