-- So many of the propositions are bound, each on top of those before it.
use native.Mathlib.Omega.{arith}
use Rattle.expressions.proofs.Parts.{none_bound, more_bound, all_bound, bound_fits}
use Rattle.expressions.proofs.bind_parts.Goals as goal

pub loop-i-init : goal.loop-i-init
loop-i-init c = none_bound _ _ _ _ c.requires.from

pub push-requires : goal.push-requires
push-requires c = bound_fits _ _ _ _ _ c.requires c.loop-i.auto.binds _ _ c.loop-i-test.true c.loop-i.invariant.2

pub loop-i-preserved : goal.loop-i-preserved
loop-i-preserved c = rw c.push.ensures (more_bound _ _ _ _ _ _ _ c.loop-i-test.true c.loop-i.invariant)

pub returns : goal.returns
returns c = all_bound _ _ _ _ _ _ _ (omega (arith, c.loop-i-test.false)) c.loop-i.invariant
