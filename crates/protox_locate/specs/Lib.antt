pub mod Collected
pub mod Declarations
pub mod Files
pub mod Gap
pub mod Located
pub mod Messages
