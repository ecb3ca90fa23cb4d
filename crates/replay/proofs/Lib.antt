pub mod Phrases
pub mod Prefixes
