pub mod Varint
pub mod Fixed
pub mod Answers
pub mod Numbers
