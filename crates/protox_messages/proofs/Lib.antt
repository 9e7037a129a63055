mod Blocks
mod Parts
pub mod MessageLaws
