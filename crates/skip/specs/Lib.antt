pub mod Walk
pub mod Value
pub mod Skip
pub mod Leaves
pub mod Numbers
