pub mod Alike
pub mod Indexes
pub mod Founds
pub mod Firsts
pub mod Furthest
