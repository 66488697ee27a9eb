pub mod Reads
pub mod Writes
pub mod Standing
pub mod ReaderRows
pub mod WriterRows
pub mod Promises
pub mod Requests
