pub mod Spans
pub mod SourceBytes
pub mod Faults
pub mod FaultPlaces
pub mod FaultTexts
