pub mod Batches
pub mod Declarations
pub mod Tree
