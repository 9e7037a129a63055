pub mod Small
pub mod CutTokens
pub mod ScalarsSuit
pub mod Assigned
pub mod EntriesSuit
pub mod FieldsSuit
pub mod SmallBytes
pub mod ExpansionsSuit
pub mod Suited
mod Example
