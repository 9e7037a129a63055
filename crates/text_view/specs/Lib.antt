pub mod Names
pub mod Schemas
pub mod Targets
pub mod Values
pub mod Holds
pub mod SourceNames
