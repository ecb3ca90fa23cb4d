-- The first j numbers are stored, the rest from there on.
use Prim.Native.Nat.{◌+◌}
use mathlib.Core.Path.{◌≡◌, sym, ◌∙◌}
use native.Mathlib.Omega.{arith}
use lib.ListN.{drop_of_length-le}
use Rattle.words.proofs.Runs.{narrow_at, storing_more, sets_out}
use Rattle.words.proofs.put_all.Goals as goal

pub loop-j-init : goal.loop-j-init
loop-j-init c = let z : c.args.i + 0 ≡ c.args.i = omega arith in rw z

pub put-requires : goal.put-requires
put-requires c = narrow_at _ _ c.requires

pub loop-j-preserved : goal.loop-j-preserved
loop-j-preserved c = rw c.put.ensures (storing_more _ _ _ _ _ c.loop-j-test.true c.loop-j.invariant)

pub returns-after-loop-j : goal.returns-after-loop-j
returns-after-loop-j c = sym (c.loop-j.invariant ∙ rw (drop_of_length-le c.args.vs.now {i = c.loop-j.j} (omega (arith, c.loop-j-test.false))))

pub returns-else-i-s : goal.returns-else-i-s
returns-else-i-s c = sym (sets_out c.args.vs.now c.args.s.now c.args.i (omega (arith, c.if-i-s.false)))
