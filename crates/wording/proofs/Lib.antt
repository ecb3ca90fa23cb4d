pub mod Writing
pub mod Bytes
pub mod Answering
pub mod Fronting
pub mod Decoding
pub mod Examples
pub mod Walking
