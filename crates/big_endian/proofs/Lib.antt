pub mod Big
pub mod Cases
pub mod Got
