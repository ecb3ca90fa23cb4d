pub mod Demanded
pub mod Ones
pub mod ShutOut
pub mod ShutOutChecks
pub mod WrongDoors
