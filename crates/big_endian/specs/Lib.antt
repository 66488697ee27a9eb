pub mod Big
pub mod Answers
pub mod Numbers
