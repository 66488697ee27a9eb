pub mod Entries
pub mod Link
pub mod Answers
pub mod Insertion
pub mod Read
pub mod Samples
