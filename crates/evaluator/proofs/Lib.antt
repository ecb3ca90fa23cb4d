pub mod Scratch
pub mod Certifying
pub mod Running
pub mod Rooting
pub mod Fitting
