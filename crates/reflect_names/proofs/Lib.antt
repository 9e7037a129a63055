pub mod Declared
pub mod Packages
pub mod Found
pub mod NameRuns
pub mod ReferenceRuns
pub mod FileRuns
pub mod ImportRuns
pub mod Numbered
