-- At each return the tests on the third byte say which case of the definition holds; where one of three fails, the form is wrong.
use Rattle.language.specs.Numbers.{third, check}
use borrow.Author.Tests.{lt-ltb, le-ltb, lt-leb, le-leb}
use Rattle.numbers.proofs.third_group.Goals as goal
use Rattle.numbers.proofs.third_group.Goals.{else-b-gt0-via-then-b-gt0+then-b-lt128+else-v-le65535, else-b-gt0-via-then-b-gt0+else-b-lt128, else-b-gt0-via-else-b-gt0}

pub returns-then-v-le65535 : goal.returns-then-v-le65535
unfolding third check
returns-then-v-le65535 c = simp (le-leb _ _ c.if-v-le65535.true, lt-ltb _ _ c.if-b-lt128.true, lt-ltb _ _ c.if-b-gt0.true, ← c.wide-b.ensures.0, lt-ltb _ _ c.if-i-s.true)

pub returns-then-i-s : goal.returns-then-i-s
unfolding third check
returns-then-i-s c =
    let inside = lt-ltb _ _ c.if-i-s.true in
    let byte = c.wide-b.ensures.0 in
    elim c.else-b-gt0.branch [
      | else-b-gt0-via-then-b-gt0+then-b-lt128+else-v-le65535 w ↦ simp (inside, ← byte, lt-ltb _ _ w.if-b-gt0.true, lt-ltb _ _ w.if-b-lt128.true, lt-leb _ _ w.if-v-le65535.false)
      | else-b-gt0-via-then-b-gt0+else-b-lt128 w ↦ simp (inside, ← byte, lt-ltb _ _ w.if-b-gt0.true, le-ltb _ _ w.if-b-lt128.false)
      | else-b-gt0-via-else-b-gt0 w ↦ simp (inside, ← byte, le-ltb _ _ w.if-b-gt0.false)
    ]

pub returns : goal.returns
unfolding third check
returns c = simp (le-ltb _ _ c.if-i-s.false)
