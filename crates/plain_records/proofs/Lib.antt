pub mod Both
pub mod Contents
