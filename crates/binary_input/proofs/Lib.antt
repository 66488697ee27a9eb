pub mod Gate
pub mod Cases
pub mod Handed
pub mod Call
pub mod Laws
pub mod Told
pub mod Each
