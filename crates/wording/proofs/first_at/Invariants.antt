-- The number did not stand before.
use Rattle.std.proofs.Common.{◌≡◌, ◌+◌, drop}
use Rattle.wording.specs.Answers.{first_at}
use Rattle.wording.proofs.first_at.Given as goal

abbrev pub invariant-loop-i : goal.invariant-loop-i
invariant-loop-i l = first_at l.s l.w ≡ l.i + first_at (drop l.i l.s) l.w
