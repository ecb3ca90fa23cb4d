pub mod Shapes
pub mod Extending
pub mod Clauses
-- one law for each return
pub mod Trying
pub mod Choosing
-- what is allowed is determined
pub mod Once
