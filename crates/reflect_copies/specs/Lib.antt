pub mod Copies
pub mod InOrder
pub mod Maps
pub mod Trees
