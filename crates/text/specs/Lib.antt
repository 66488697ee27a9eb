pub mod Pen
pub mod Words
