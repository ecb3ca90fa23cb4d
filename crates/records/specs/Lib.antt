pub mod Rows
pub mod PatternNumbers
pub mod PhraseNumbers
pub mod Reading
pub mod Answers
pub mod Operands
