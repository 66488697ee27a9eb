pub mod Written
pub mod Text
pub mod Writing
pub mod Reading
