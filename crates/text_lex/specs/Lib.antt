pub mod Token
pub mod Longest
pub mod Order
pub mod Lex
pub mod Printed
pub mod Shown
pub mod Stream
pub mod Unread
