pub mod Door
pub mod Parts
