pub mod Row
pub mod Tell
