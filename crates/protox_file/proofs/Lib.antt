pub mod FileLaws
mod Known
pub mod Spans
pub mod Texts
pub mod OlderSources
