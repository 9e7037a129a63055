pub mod Names
pub mod NameSteps
pub mod References
pub mod ReferenceSteps
pub mod NamePass
pub mod ReferencePass
pub mod FileNames
pub mod ImportedFiles
