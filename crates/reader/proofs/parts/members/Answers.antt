-- The numbers from the start are those stored, and the rest from here.
use mathlib.Core.Path.{sym}
use Rattle.reader.proofs.Filling.{in_start, in_end, in_refused, in_more}
use Rattle.reader.proofs.parts.members.Goals as goal

pub loop-i-preserved : goal.loop-i-preserved
loop-i-preserved c = in_more _ _ _ _ _ _ _ c.loop-i.invariant _ _ _ c.requires c.loop-i-test.true (sym c.in-Ok.ensures.0) c.put.ensures

pub returns-in-Err : goal.returns-in-Err
returns-in-Err c = in_refused _ _ _ _ _ _ _ c.loop-i.invariant _ c.loop-i-test.true (sym c.in-Err.ensures.0)

pub returns : goal.returns
returns c = in_end _ _ _ _ _ _ _ c.loop-i.invariant c.loop-i-test.false
