pub mod Singles
pub mod Sound
pub mod Types
pub mod Views
pub mod Recoded
pub mod Shaped
pub mod Taken
