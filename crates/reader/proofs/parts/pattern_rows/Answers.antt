-- The rows from the start are those laid, and the rest from here.
use Rattle.reader.proofs.Filling.{at_start, at_end, at_refused, at_more}
use borrow.Author.Rules.{rules}
use Rattle.reader.proofs.parts.pattern_rows.Goals as goal

pub loop-i-init : goal.loop-i-init
loop-i-init c = at_start _ _ _ _ _ _

pub loop-i-preserved : goal.loop-i-preserved
loop-i-preserved c = at_more _ _ _ _ _ _ _ _ _ c.loop-i.invariant _ _ c.loop-i-test.true c.read_pattern.ensures _ (search rules) c.in-Ok.is

pub returns-in-Err : goal.returns-in-Err
returns-in-Err c = at_refused _ _ _ _ _ _ _ _ _ c.loop-i.invariant _ _ c.loop-i-test.true c.read_pattern.ensures _ c.requires.0 c.in-Err.is

pub returns : goal.returns
returns c = at_end _ _ _ _ _ _ _ _ _ c.loop-i.invariant c.requires.0 c.loop-i-test.false
