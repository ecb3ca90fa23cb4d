-- A character more is read.
use Rattle.std.proofs.Common.{refl}
use Rattle.wording.proofs.Decoding.{at_more, at_end}
use Rattle.wording.proofs.decimals.read.Goals as goal

pub loop-c-preserved : goal.loop-c-preserved
loop-c-preserved c =
    at_more _ _ _ _ _ _ c.loop-c.invariant _ _ _ refl c.loop-c-test.true c.turn-reading.ensures.said_value c.turn-reading.ensures.bytes_after

pub returns : goal.returns
returns c = at_end _ _ _ _ _ _ c.loop-c.invariant c.loop-c-test.false
