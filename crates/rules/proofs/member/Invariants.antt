-- What is left of the stack has the number where the whole stack has it.
use mathlib.Core.Path.{◌≡◌}
use Rattle.rules.specs.Base.{within}
use Rattle.rules.proofs.member.Given as goal

abbrev pub invariant-loop-j : goal.invariant-loop-j
invariant-loop-j l = within l.p l.base l.b ≡ within l.p l.base l.j
