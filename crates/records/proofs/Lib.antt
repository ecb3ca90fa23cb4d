pub mod References
pub mod ByKind
pub mod PatternNumbers
pub mod PhraseNumbers
pub mod Tables
pub mod Once
