pub mod Growth
pub mod Cut
pub mod Settled
pub mod Put
pub mod Tested
