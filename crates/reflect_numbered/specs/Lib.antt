pub mod Called
pub mod Fits
pub mod Lent
pub mod Refused
pub mod Texts
