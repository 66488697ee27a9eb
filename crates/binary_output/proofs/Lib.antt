pub mod Checks
pub mod Cases
pub mod Laws
pub mod Stays
pub mod Given
