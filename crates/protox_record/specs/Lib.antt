pub mod FileRecords
