pub mod Accepted
pub mod Refusals
pub mod Parts
pub mod Many
