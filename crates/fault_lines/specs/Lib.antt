pub mod Row
pub mod Told
