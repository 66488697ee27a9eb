pub mod Lent
pub mod Count
pub mod Numbers
