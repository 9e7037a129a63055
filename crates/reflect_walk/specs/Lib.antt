pub mod Items
pub mod MapEntries
