pub mod Again
mod FieldKinds
mod Parts
pub mod Said
pub mod Written
