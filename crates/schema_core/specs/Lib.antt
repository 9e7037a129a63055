pub mod Payloads
pub mod Places
pub mod Refusals
pub mod Serving
pub mod Texts
