-- A node by its kind: each call finds what it asks in what was read, and each return answers what the definition concludes.
-- Nesting left is what falls: a node opens, then its parts are walked.
use Prim.Native.Nat.{◌+◌, ◌*◌}
use Rattle.checker.proofs.walking.Walk.+node_walk.Given as goal

abbrev pub decreases-in_turn : goal.decreases-in_turn
decreases-in_turn l = 2 * l.d + 1

abbrev pub decreases-under : goal.decreases-under
decreases-under l = 2 * l.d + 1

abbrev pub decreases-node : goal.decreases-node
decreases-node l = 2 * l.d
