pub mod Alike
pub mod Excluding
pub mod Values
