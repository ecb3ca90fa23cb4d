-- what rows say
pub mod Operands
-- states that grow
pub mod Growth
-- one law for each return
pub mod Leaves
pub mod Steps
pub mod Operators
pub mod Constructors
pub mod Calls
pub mod Parts
pub mod Matches
-- what is asked can be met, and what is allowed agrees
pub mod Start
pub mod Sheets
