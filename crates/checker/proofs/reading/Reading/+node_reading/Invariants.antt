-- At each return the tests and readings on the way leave one case of the definition. Nesting left is what falls.
use Prim.Native.Nat.{◌+◌, ◌*◌}
use Rattle.checker.proofs.reading.Reading.+node_reading.Given as goal

abbrev pub decreases-node : goal.decreases-node
decreases-node l = 3 * l.d

abbrev pub decreases-rest : goal.decreases-rest
decreases-rest l = 3 * l.d + 2

abbrev pub decreases-two : goal.decreases-two
decreases-two l = 3 * l.d + 1

abbrev pub decreases-under : goal.decreases-under
decreases-under l = 3 * l.d + 1
