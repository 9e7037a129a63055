pub mod Completeness
pub mod Continuing
pub mod Exact
mod Examples
pub mod Fronts
pub mod Parts
pub mod Soundness
pub mod Unfolding
