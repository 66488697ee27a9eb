pub mod Heads
pub mod Words
pub mod Answers
pub mod Numbers
