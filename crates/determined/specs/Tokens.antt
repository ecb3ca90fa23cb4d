-- The public functions of `tokens`.
use Rattle.tokens.proofs as tokens
use Rattle.determined.specs.Once.{Once}

pub record Tokens : Type 0 where
  pub sequence : Once tokens.sequence.Kinds.ps tokens.sequence.Kinds.r tokens.sequence.Reads.Learnt
  pub hypothesis : Once tokens.hypothesis.Kinds.ps tokens.hypothesis.Kinds.r tokens.hypothesis.Reads.Learnt
  pub rule : Once tokens.rule.Kinds.ps tokens.rule.Kinds.r tokens.rule.Reads.Learnt
