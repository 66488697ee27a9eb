pub mod Doubles
pub mod Walked
pub mod Calls
