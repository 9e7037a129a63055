pub mod MessageRecords
pub mod SyntheticOneofs
