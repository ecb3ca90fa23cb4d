-- The public functions of `phrases`.
use Rattle.phrases.proofs as phrases
use Rattle.determined.specs.Once.{Once}

pub record Phrases : Type 0 where
  pub read_phrase : Once phrases.read_phrase.Kinds.ps phrases.read_phrase.Kinds.r phrases.read_phrase.Reads.Learnt
  pub deduction : Once phrases.deduction.Kinds.ps phrases.deduction.Kinds.r phrases.deduction.Reads.Learnt
  pub shape_shape_of : Once phrases.shape.shape_of.Kinds.ps phrases.shape.shape_of.Kinds.r phrases.shape.shape_of.Reads.Learnt
