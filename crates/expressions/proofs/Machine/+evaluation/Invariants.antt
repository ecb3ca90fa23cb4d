-- Remaining nesting falls: a phrase's parts run with one less, and a list of arguments with one argument less. At each return the callees'
-- answers and the tests give the language's answer, by one law of Steps, Calls, Operators or Matches.
use Prim.Native.Nat.{◌+◌, ◌*◌}
use Rattle.expressions.proofs.Machine.+evaluation.Given as goal

abbrev pub decreases-apply : goal.decreases-apply
decreases-apply l = 16 * l.depth + 1

abbrev pub decreases-arguments : goal.decreases-arguments
decreases-arguments l = 16 * l.depth + l.left + 1

abbrev pub decreases-bind : goal.decreases-bind
decreases-bind l = 16 * l.depth + 1

abbrev pub decreases-call : goal.decreases-call
decreases-call l = 16 * l.depth + 8

abbrev pub decreases-clause : goal.decreases-clause
decreases-clause l = 16 * l.depth + 1

abbrev pub decreases-enter : goal.decreases-enter
decreases-enter l = 16 * l.depth

abbrev pub decreases-matched : goal.decreases-matched
decreases-matched l = 16 * l.depth + 2
