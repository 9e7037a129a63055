pub mod Deciding
pub mod Located
pub mod Moving
pub mod Passing
pub mod Setting
pub mod Unread
