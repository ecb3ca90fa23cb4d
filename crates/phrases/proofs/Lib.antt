pub mod PhraseKinds
pub mod OperandRuns
