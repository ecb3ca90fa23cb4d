-- values and runs of tokens
pub mod Sorts
pub mod Tokens
-- states that grow
pub mod Bases
pub mod Growth
pub mod Rules
-- what rows say, what a callee leaves
pub mod Rows
pub mod Got
-- one law for each return
pub mod Entering
pub mod Lets
pub mod Supposing
pub mod Announcing
pub mod Calling
pub mod Matching
