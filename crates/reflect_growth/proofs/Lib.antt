pub mod Filters
pub mod Puts
pub mod Nested
pub mod Told
pub mod Kept
pub mod Bare
pub mod More
