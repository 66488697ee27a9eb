pub mod Bytes
pub mod Wrong
