pub mod StoredOptions
