pub mod Transfer
pub mod Unsettled
pub mod Many
pub mod Built
pub mod Faults
