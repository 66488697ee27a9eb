pub mod State
pub mod Calls
pub mod Numbers
