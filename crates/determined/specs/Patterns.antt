-- The public functions of `patterns`.
use Rattle.patterns.proofs as patterns
use Rattle.determined.specs.Once.{Once, OnceAsked}

pub record Patterns : Type 0 where
  pub choose : OnceAsked patterns.choose.Kinds.ps patterns.choose.Kinds.r patterns.choose.Reads.Asked patterns.choose.Reads.Learnt
  pub tried : OnceAsked patterns.tried.Kinds.ps patterns.tried.Kinds.r patterns.tried.Reads.Asked patterns.tried.Reads.Learnt
  pub nothing : Once patterns.nothing.Kinds.ps patterns.nothing.Kinds.r patterns.nothing.Reads.Learnt
