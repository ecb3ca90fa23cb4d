-- The words and names so far are those that naming gives, and the answer from the start is the answer from here.
use mathlib.Core.Path.{sym}
use Rattle.reader.proofs.Naming.{at_start, at_put, at_end, at_refused, at_more}
use Rattle.reader.proofs.read_propositions.Goals as goal

pub loop-i-init : goal.loop-i-init
loop-i-init c = at_start _ _ _ _ _ _ c.requires

pub put-requires : goal.put-requires
put-requires c = at_put _ _ _ _ _ _ c.requires _ _ _ _ _ c.loop-i.invariant _ _ _ c.loop-i-test.true c.intern-f.ensures

pub loop-i-preserved : goal.loop-i-preserved
loop-i-preserved c =
    rw c.put.ensures (at_more _ _ _ _ _ _ c.requires _ _ _ _ _ c.loop-i.invariant _ _ _ _ c.loop-i-test.true (sym c.in-Ok.ensures.0) c.intern-f.ensures)

pub returns-in-Err : goal.returns-in-Err
returns-in-Err c = at_refused _ _ _ _ _ _ c.requires _ _ _ _ _ c.loop-i.invariant _ c.loop-i-test.true (sym c.in-Err.ensures.0)

pub returns : goal.returns
returns c = at_end _ _ _ _ _ _ c.requires _ _ _ _ _ c.loop-i.invariant c.loop-i-test.false
