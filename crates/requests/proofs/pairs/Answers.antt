-- At each turn what is decoded from the start is what is decoded from here, and what was read stands at the front of out.
use Rattle.std.proofs.Common.{arith}
use Rattle.requests.proofs.Decoding.{at_no_digit, at_full, at_byte, at_end}
use Rattle.requests.proofs.pairs.Goals as goal

pub returns-in_err-b : goal.returns-in_err-b
returns-in_err-b c = rw c.from_residual.ensures (at_no_digit _ _ _ _ _ _ c.loop-i.invariant c.loop-i-test.true c.in_err-b.ensures)

pub returns-then-out-i : goal.returns-then-out-i
returns-then-out-i c = at_full _ _ _ _ _ _ c.loop-i.invariant _ c.loop-i-test.true c.in_ok-b.ensures (omega arith)

pub loop-i-preserved : goal.loop-i-preserved
loop-i-preserved c = at_byte _ _ _ _ _ _ c.loop-i.invariant _ c.loop-i-test.true c.in_ok-b.ensures (omega arith)

pub returns : goal.returns
returns c = at_end _ _ _ _ _ _ c.loop-i.invariant (omega arith)
