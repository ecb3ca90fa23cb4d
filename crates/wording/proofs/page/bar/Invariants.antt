-- No bar stood before.
use Rattle.std.proofs.Common.{◌≡◌, ◌++◌, take, drop}
use Rattle.wording.specs.Text.{up_to}
use Rattle.wording.proofs.page.bar.Given as goal

abbrev pub invariant-loop-i : goal.invariant-loop-i
invariant-loop-i l = up_to l.text ≡ take l.i l.text ++ up_to (drop l.i l.text)
