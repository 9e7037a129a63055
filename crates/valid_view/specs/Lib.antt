pub mod Given
pub mod Inside
pub mod Tidy
