pub mod Fronts
pub mod Runs
