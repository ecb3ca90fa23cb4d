-- Along the chain: the answer from the start is the answer from here.
use mathlib.Core.Path.{◌≡◌}
use Rattle.bindings.specs.Numbers.{found}
use Rattle.bindings.specs.Stands.{Linked}
use Rattle.bindings.proofs.lookup.Given as goal

abbrev pub invariant-loop-e : goal.invariant-loop-e
invariant-loop-e l = Linked l.t l.e × (found l.t l.env l.k ≡ found l.t l.e l.i)

abbrev pub decreases-loop-e : goal.decreases-loop-e
decreases-loop-e l = l.i
