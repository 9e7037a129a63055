mod AlikeParts
pub mod Behind
mod Bits
mod Copied
pub mod Decoded
mod Deep
mod Deepening
mod Entries
mod Extended
mod ExtendedSolid
mod ExtendedTidy
mod Filling
mod Firm
mod FirmCopies
pub mod Fitting
mod Given
mod Kept
pub mod KeyOrder
mod Leaving
mod LeftOnes
mod LeftValues
mod Meaning
pub mod Opened
mod Parts
mod Passing
mod Setting
mod Sitting
mod Solidly
mod Staying
mod Stemming
mod Suiting
pub mod Testing
mod Told
mod Typed
pub mod Valid
