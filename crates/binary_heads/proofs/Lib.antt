pub mod Cases
pub mod Owes
pub mod Ahead
