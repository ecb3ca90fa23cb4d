-- The number that is read, else 0 at the place.
use Rattle.checker.proofs.Taking.{took}
use Rattle.checker.proofs.walking.Walk.taken.Goals as goal

pub returns : goal.returns
returns c = rw c.unwrap_or.ensures (took _ _ _ c.read.ensures)
