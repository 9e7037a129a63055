pub mod GivenNames
pub mod MessageNames
