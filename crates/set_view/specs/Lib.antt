pub mod Extends
pub mod Given
pub mod Puts
