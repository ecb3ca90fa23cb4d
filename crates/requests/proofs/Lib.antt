pub mod Counting
pub mod Hexed
pub mod Decoding
pub mod Spans
