pub mod OneProof
pub mod Presence
pub mod SourcePools
