pub mod AnyParts
pub mod Choosing
pub mod Giving
pub mod Listing
pub mod Urls
