pub mod Places
pub mod Walk
pub mod Tally
pub mod Judge
pub mod Verdicts
pub mod Demand
