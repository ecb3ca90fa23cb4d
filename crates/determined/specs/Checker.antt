-- The public functions of `checker`.
use Rattle.checker.proofs as checker
use Rattle.determined.specs.Once.{Once}

pub record Checker : Type 0 where
  pub check : Once checker.check.Kinds.ps checker.check.Kinds.r checker.check.Reads.Learnt
