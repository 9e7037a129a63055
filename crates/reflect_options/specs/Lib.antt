pub mod Entities
pub mod Settled
pub mod Settling
pub mod Visiting
