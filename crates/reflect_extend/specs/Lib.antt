pub mod Gives
pub mod Others
pub mod Puts
pub mod Siblings
