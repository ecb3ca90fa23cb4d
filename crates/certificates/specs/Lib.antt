pub mod Marks
pub mod Emitted
pub mod Told
pub mod Certified
