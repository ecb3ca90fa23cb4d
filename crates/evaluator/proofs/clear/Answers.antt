-- `evaluator::clear` meets its contract: each buffer is as long as fixed, and is wiped so far.
use Rattle.evaluator.proofs.Scratch.{seven_wiped}
use Rattle.evaluator.proofs.clear.Goals as goal

pub returns : goal.returns
returns c = seven_wiped _ _ _ _ _ _ _ _ _ _ _ _ _ _ c.wipe.ensures c.wipe-2.ensures c.wipe-3.ensures c.wipe-4.ensures c.wipe-5.ensures c.wipe-6.ensures c.wipe-7.ensures
