pub mod Calling
pub mod Fitting
