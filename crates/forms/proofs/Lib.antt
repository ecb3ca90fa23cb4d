pub mod KindNumbers
pub mod Positions
pub mod Interning
pub mod Records
pub mod Trees
pub mod Growth
pub mod Forming
