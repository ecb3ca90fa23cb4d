-- So many bars are still to be passed.
use Rattle.std.proofs.Common.{◌≡◌, drop}
use Rattle.wording.specs.Text.{after}
use Rattle.wording.proofs.page.skip.Given as goal

abbrev pub invariant-loop-i : goal.invariant-loop-i
invariant-loop-i l = after l.k l.text ≡ after l.left (drop l.i l.text)
