-- The words passed so far are not the one that is sought.
use Rattle.std.proofs.Common.{take}
use Rattle.forms.proofs.Interning.{Passed}
use Rattle.forms.proofs.find.Given as goal

abbrev pub invariant-loop-i : goal.invariant-loop-i
invariant-loop-i l = Passed l.w (take l.n l.t) l.i
