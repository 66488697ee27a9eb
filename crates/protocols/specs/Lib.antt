pub mod Words
pub mod Value
pub mod Spells
pub mod Answers
