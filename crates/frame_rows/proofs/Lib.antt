pub mod Cases
pub mod Puts
pub mod Back
pub mod Carried
