-- The public functions of `rules`.
use Rattle.rules.proofs as rules
use Rattle.determined.specs.Once.{OnceAsked}

pub record Rules : Type 0 where
  pub apply : OnceAsked rules.apply.Kinds.ps rules.apply.Kinds.r rules.apply.Reads.Asked rules.apply.Reads.Learnt
