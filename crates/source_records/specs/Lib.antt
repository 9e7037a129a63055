pub mod LoneLists
pub mod SourceNames
