pub mod Belonging
pub mod Collects
pub mod Finds
pub mod Margins
pub mod Meets
pub mod Nests
pub mod Pieces
pub mod Trailing
