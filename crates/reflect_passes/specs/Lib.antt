pub mod Errors
pub mod Texts
pub mod Extensions
pub mod Linked
pub mod NameFaults
pub mod NumberFaults
