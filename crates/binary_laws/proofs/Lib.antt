pub mod Back
pub mod Spelt
pub mod RoundTrip
pub mod Writing
pub mod WriteRead
pub mod Samples
