pub mod Reads
pub mod Refusals
pub mod Statuses
pub mod Streams
pub mod Texts
pub mod Usage
