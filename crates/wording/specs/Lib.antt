pub mod Page
pub mod Text
pub mod Templates
pub mod Tables
pub mod Answers
pub mod Decimals
