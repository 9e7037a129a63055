pub mod Before
pub mod Forms
pub mod Putting
pub mod Measuring
