pub mod Sheets
pub mod Cases
pub mod Call
pub mod Few
pub mod Answers
pub mod Theorems
