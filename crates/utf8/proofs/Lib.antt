pub mod Cases
pub mod Laws
pub mod Steps
pub mod Rows
pub mod Library
pub mod Short
pub mod Samples
