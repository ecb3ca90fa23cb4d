-- Remaining nesting falls: a phrase's parts run with one less, and a list of arguments or steps with one less of them. At each return the callees'
-- answers and the tests give the language's answer, by one law of Entering, Lets, Supposing, Announcing, Calling, Rules or Matching.
use Prim.Native.Nat.{◌+◌, ◌*◌}
use Rattle.deductions.proofs.Run.+deduction.Given as goal

abbrev pub decreases-announced : goal.decreases-announced
decreases-announced l = 32 * l.site.depth + 1

abbrev pub decreases-apply : goal.decreases-apply
decreases-apply l = 32 * l.site.depth + 1

abbrev pub decreases-arguments : goal.decreases-arguments
decreases-arguments l = 32 * l.site.depth + l.left + 2

abbrev pub decreases-assume : goal.decreases-assume
decreases-assume l = 32 * l.site.depth + 2

abbrev pub decreases-bind : goal.decreases-bind
decreases-bind l = 32 * l.site.depth + 2

abbrev pub decreases-block : goal.decreases-block
decreases-block l = 32 * l.site.depth + 11

abbrev pub decreases-call : goal.decreases-call
decreases-call l = 32 * l.site.depth + 10

abbrev pub decreases-called : goal.decreases-called
decreases-called l = 32 * l.site.depth + 9

abbrev pub decreases-clause : goal.decreases-clause
decreases-clause l = 32 * l.site.depth + 1

abbrev pub decreases-enter : goal.decreases-enter
decreases-enter l = 32 * l.site.depth

abbrev pub decreases-either : goal.decreases-either
decreases-either l = 32 * l.site.depth + 1

abbrev pub decreases-matched : goal.decreases-matched
decreases-matched l = 32 * l.site.depth + 3

abbrev pub decreases-step : goal.decreases-step
decreases-step l = 32 * l.site.depth + 12

abbrev pub decreases-steps : goal.decreases-steps
decreases-steps l = 32 * l.site.depth + l.left + 2

abbrev pub decreases-suppose : goal.decreases-suppose
decreases-suppose l = 32 * l.site.depth + 2

abbrev pub decreases-under : goal.decreases-under
decreases-under l = 32 * l.site.depth + 1
