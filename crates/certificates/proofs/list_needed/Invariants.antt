-- What was listed and what is ahead make up what the proof needs.
use Prim.Native.Nat.{◌-◌}
use Rattle.certificates.proofs.Needing.{Needing}
use Rattle.certificates.proofs.list_needed.Given as goal

abbrev pub invariant-loop-i : goal.invariant-loop-i
invariant-loop-i l = Needing l.forms l.n l.tokens l.m l.initial.listing l.listing l.i l.left l.count l.rules.0

abbrev pub decreases-loop-i : goal.decreases-loop-i
decreases-loop-i l = l.m - l.i
