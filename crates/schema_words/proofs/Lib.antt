pub mod InRows
pub mod Simple
