pub mod Lists
pub mod Demands
pub mod Growth
pub mod Longest
pub mod Wrong
