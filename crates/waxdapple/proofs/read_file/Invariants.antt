-- `read_file` ends: each turn leaves less of the file.
use Rattle.std.proofs.Common.{length, ◌≡◌}
use Rattle.waxdapple.proofs.read_file.Given as goal

abbrev pub invariant-loop-left : goal.invariant-loop-left
invariant-loop-left g l = length l.out ≡ length l.initial.out

abbrev pub decreases-loop-left : goal.decreases-loop-left
decreases-loop-left g l = l.left
