pub mod Among
pub mod Enumerated
pub mod Faults
pub mod Filling
pub mod Single
pub mod Stepping
pub mod Telling
