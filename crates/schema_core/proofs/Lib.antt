pub mod Answered
pub mod Apart
pub mod Refused
pub mod RefusedInputs
