pub mod Unknown
pub mod Finite
