pub mod Themselves
pub mod Alike
pub mod Becoming
