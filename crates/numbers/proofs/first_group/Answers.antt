-- At each return the tests on the first byte say which case of the definition holds.
use Rattle.language.specs.Numbers.{number, check, pick}
use borrow.Author.Tests.{lt-ltb, le-ltb}
use Rattle.numbers.proofs.first_group.Goals as goal

pub returns-then-b-lt128 : goal.returns-then-b-lt128
unfolding number check pick
returns-then-b-lt128 c = simp (lt-ltb _ _ c.if-b-lt128.true, ← c.wide-b.ensures.0, lt-ltb _ _ c.if-at-s.true)

pub returns-then-at-s : goal.returns-then-at-s
unfolding number check pick
returns-then-at-s c = simp (c.second_group.ensures, le-ltb _ _ c.if-b-lt128.false, ← c.wide-b.ensures.0, lt-ltb _ _ c.if-at-s.true)

pub returns : goal.returns
unfolding number check pick
returns c = simp (le-ltb _ _ c.if-at-s.false)
