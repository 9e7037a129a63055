pub mod EnumLaws
pub mod ServiceLaws
