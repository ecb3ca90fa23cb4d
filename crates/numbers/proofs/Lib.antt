pub mod Answers
pub mod Bounds
pub mod Groups
pub mod ReadBack
