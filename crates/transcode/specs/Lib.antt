pub mod Pens
pub mod Letter
pub mod Call
