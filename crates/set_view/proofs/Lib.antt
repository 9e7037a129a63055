mod Entered
pub mod Extended
pub mod Given
pub mod Keyed
mod Lasting
mod Leaving
mod Listed
mod Longer
pub mod Mapped
mod Numbered
mod Owned
pub mod Parts
pub mod Suited
mod Taken
pub mod Viewed
