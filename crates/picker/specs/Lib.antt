pub mod Pick
pub mod Notes
