pub mod Machine
pub mod Asked
pub mod Meets
