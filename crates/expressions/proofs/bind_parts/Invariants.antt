-- So many of the propositions are bound, each on top of those before it.
use Rattle.patterns.specs.Parts.{numbers}
use Rattle.expressions.proofs.Parts.{Reached}
use Rattle.expressions.proofs.bind_parts.Given as goal

abbrev pub invariant-loop-i : goal.invariant-loop-i
invariant-loop-i l = Reached l.fn.binds l.n l.env (numbers l.fn.parts) l.binds l.i l.top
