pub mod Reader
pub mod Heads
pub mod Answers
pub mod Spells
pub mod Numbers
