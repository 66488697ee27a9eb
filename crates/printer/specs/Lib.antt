pub mod Telling
pub mod Value
pub mod Printing
pub mod Numbers
