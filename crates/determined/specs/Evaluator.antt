-- The public functions of `evaluator`.
use Rattle.evaluator.proofs as evaluator
use Rattle.determined.specs.Once.{Once}

pub record Evaluator : Type 0 where
  pub evaluate : Once evaluator.evaluate.Kinds.ps evaluator.evaluate.Kinds.r evaluator.evaluate.Reads.Learnt
