pub mod Behind
pub mod Nests
