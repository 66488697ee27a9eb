pub mod Bare
pub mod Day
pub mod Short
pub mod Fault
pub mod Single
