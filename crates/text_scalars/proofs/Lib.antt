pub mod Finding
pub mod Literals
pub mod Named
pub mod Naming
pub mod Strings
