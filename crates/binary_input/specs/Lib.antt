pub mod State
pub mod Outcome
pub mod Answers
pub mod Calls
