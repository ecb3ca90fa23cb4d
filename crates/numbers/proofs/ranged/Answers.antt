-- What was read is a number, which the two tests hold to its range, or a refusal, which is handed on.
use Rattle.language.specs.Numbers.{from, then, check}
use borrow.Author.Tests.{lt-leb, le-leb}
use Rattle.std.proofs.Common.{rules}
use Rattle.std.proofs.lemmas.Result.{err_from_is_err_and}
use Rattle.numbers.proofs.ranged.Goals as goal
use Rattle.numbers.proofs.ranged.Goals.{else-low-v-via-then-low-v+else-v-top, else-low-v-via-else-low-v}

pub returns-in_err-v : goal.returns-in_err-v
unfolding from then check
returns-in_err-v c = search (rules, err_from_is_err_and)

pub returns-then-v-top : goal.returns-then-v-top
unfolding from then check
returns-then-v-top c = simp (← c.in_ok-v.ensures, le-leb _ _ c.if-low-v.true, le-leb _ _ c.if-v-top.true)

pub returns : goal.returns
unfolding from then check
returns c =
    let read = c.in_ok-v.ensures in
    elim c.else-low-v.branch [
      | else-low-v-via-then-low-v+else-v-top w ↦ simp (← read, le-leb _ _ w.if-low-v.true, lt-leb _ _ w.if-v-top.false)
      | else-low-v-via-else-low-v w ↦ simp (← read, lt-leb _ _ w.if-low-v.false)
    ]
