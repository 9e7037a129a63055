pub mod Fields
pub mod Pools
pub mod Typed
