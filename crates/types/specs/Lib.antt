pub mod Refusals
pub mod Codes
pub mod Limits
pub mod Value
pub mod Numbers
