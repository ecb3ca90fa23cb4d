-- A character more is filled.
use Rattle.std.proofs.Common.{◌∙◌}
use Rattle.wording.proofs.Walking.{filled_more}
use Rattle.wording.proofs.template.fill.Goals as goal

pub loop-c-preserved : goal.loop-c-preserved
loop-c-preserved c = rw c.part-n.ensures (c.loop-c.invariant ∙ filled_more _ _ _ _ c.loop-c-test.true)
