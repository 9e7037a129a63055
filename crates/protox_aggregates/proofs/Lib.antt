pub mod AggregateLaws
pub mod Braces
pub mod Turns
pub mod Written
