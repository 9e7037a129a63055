pub mod Added
pub mod SpanRuns
pub mod Lines
pub mod LinesBack
