pub mod Cases
pub mod Gate
pub mod Ids
pub mod Sizes
