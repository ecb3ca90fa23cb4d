-- At each return the tests on the second byte say which case of the definition holds.
use Rattle.language.specs.Numbers.{second, check, pick}
use borrow.Author.Tests.{lt-ltb, le-ltb}
use Rattle.numbers.proofs.second_group.Goals as goal

pub returns-then-b-gt0 : goal.returns-then-b-gt0
unfolding second check pick
returns-then-b-gt0 c = simp (lt-ltb _ _ c.if-b-gt0.true, lt-ltb _ _ c.if-b-lt128.true, ← c.wide-b.ensures.0, lt-ltb _ _ c.if-i-s.true)

pub returns-then-b-lt128 : goal.returns-then-b-lt128
unfolding second check pick
returns-then-b-lt128 c = simp (le-ltb _ _ c.if-b-gt0.false, lt-ltb _ _ c.if-b-lt128.true, ← c.wide-b.ensures.0, lt-ltb _ _ c.if-i-s.true)

pub returns-then-i-s : goal.returns-then-i-s
unfolding second check pick
returns-then-i-s c = simp (c.third_group.ensures, le-ltb _ _ c.if-b-lt128.false, ← c.wide-b.ensures.0, lt-ltb _ _ c.if-i-s.true)

pub returns : goal.returns
unfolding second check pick
returns c = simp (le-ltb _ _ c.if-i-s.false)
