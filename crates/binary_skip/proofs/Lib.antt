pub mod Leaf
pub mod Cycle
pub mod Samples
