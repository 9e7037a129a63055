pub mod Items
pub mod Messages
pub mod OneRecord
pub mod Oneofs
pub mod Rows
pub mod Taken
pub mod Types
