pub mod Doubled
pub mod Named
pub mod Numbered
pub mod Listed
pub mod Each
