pub mod Tale
pub mod Text
pub mod Enough
pub mod Uncut
