pub mod Blocks
pub mod Choosing
pub mod Defaulting
pub mod Known
pub mod Lengthening
pub mod Owning
pub mod Setting
pub mod Taking
