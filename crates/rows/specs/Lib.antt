pub mod Row
pub mod Reads
pub mod Writes
pub mod Structs
