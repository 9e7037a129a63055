pub mod Front
pub mod Reading
pub mod Merging
pub mod Escaping
pub mod Utf8
pub mod Singles
pub mod Orders
pub mod Contents
pub mod Rivals
pub mod Unset
pub mod Printing
pub mod Expansions
pub mod Expanding
pub mod Numbers
mod Examples
mod ExpandedExample
pub mod InBytes
pub mod Leaves
pub mod Decimals
pub mod Signs
pub mod Written
pub mod Pretty
pub mod Shown
pub mod Back
