pub mod EnumRecords
pub mod Numbers
pub mod OptionRecords
pub mod ServiceRecords
pub mod Texts
