-- things by their numbers: in general, and rules
pub mod Numbering
pub mod RuleNumbers
