-- The stack from the top down: the number is at the top or further down, and not in an empty one.
use Rattle.std.proofs.Common.{arith}
use Rattle.std.proofs.lemmas.Bool.Decides.{nat_tests}
use Rattle.rules.proofs.Stacks.{within_step, within_none}
use Rattle.rules.proofs.member.Goals as goal

pub returns-then-p-at : goal.returns-then-p-at
returns-then-p-at c = grind (arith, nat_tests, within_step)

pub loop-j-preserved : goal.loop-j-preserved
loop-j-preserved c = grind (arith, nat_tests, within_step)

pub returns : goal.returns
returns c = grind (arith, within_none)
