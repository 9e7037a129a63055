pub mod Left
pub mod Marks
pub mod Parser
pub mod Reads
pub mod Refusal
pub mod Span
pub mod Stream
pub mod Told
