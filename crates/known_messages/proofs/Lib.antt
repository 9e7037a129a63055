pub mod Contents
pub mod Forms
pub mod Grown
pub mod Plain
pub mod Written
