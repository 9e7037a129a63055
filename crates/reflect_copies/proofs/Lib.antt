pub mod Alike
pub mod Copying
pub mod Entries
pub mod InOrder
pub mod Trees
