pub mod Tables
pub mod Codes
pub mod Limits
pub mod Value
pub mod Samples
