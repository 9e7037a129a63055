mod Dots
mod Sourced
mod Known
mod Apart
mod Batch
mod Groups
mod Stored
mod Entries
mod Kept
mod ByteDefaults
mod LoneLists
pub mod Accepted
mod Unset
mod FieldsKept
pub mod ReadDefaults
pub mod Stays
pub mod Typed
mod Example
