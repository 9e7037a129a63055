pub mod Defaulted
pub mod First
pub mod Meanings
pub mod ReadBack
