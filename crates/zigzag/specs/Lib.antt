pub mod Zigzag
pub mod Laws
