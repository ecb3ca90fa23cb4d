pub mod Growth
pub mod Lemmas
