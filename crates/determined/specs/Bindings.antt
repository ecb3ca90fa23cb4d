-- The public functions of `bindings`.
use Rattle.bindings.proofs as bindings
use Rattle.determined.specs.Once.{Once}

pub record Bindings : Type 0 where
  pub lookup : Once bindings.lookup.Kinds.ps bindings.lookup.Kinds.r bindings.lookup.Reads.Learnt
  pub push : Once bindings.push.Kinds.ps bindings.push.Kinds.r bindings.push.Reads.Learnt
  pub load : Once bindings.load.Kinds.ps bindings.load.Kinds.r bindings.load.Reads.Learnt
  pub scope : Once bindings.scope.Kinds.ps bindings.scope.Kinds.r bindings.scope.Reads.Learnt
