pub mod Deltas
pub mod Pieces
pub mod Checks
pub mod Most
