pub mod Prints
pub mod Leaf
pub mod Walks
pub mod Cycle
pub mod Same
pub mod Whole
pub mod Samples
