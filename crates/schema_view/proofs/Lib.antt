pub mod Agreeing
pub mod Batches
pub mod Defaults
mod Example
pub mod Growing
pub mod Lists
pub mod Looking
pub mod Nested
pub mod OneMeaning
pub mod Orders
pub mod Renames
pub mod Road
pub mod Standing
pub mod Targets
mod TypeExamples
pub mod Within
