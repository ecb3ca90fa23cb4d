-- No blank stood before.
use Rattle.std.proofs.Common.{◌≡◌, ◌+◌, drop}
use Rattle.requests.specs.Fields.{span}
use Rattle.requests.proofs.field_end.Given as goal

abbrev pub invariant-loop-i : goal.invariant-loop-i
invariant-loop-i l = l.from + span (drop l.from l.line) ≡ l.i + span (drop l.i l.line)
