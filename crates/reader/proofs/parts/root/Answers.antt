-- The root is an earlier deduction, and the bytes end where it does.
use borrow.Author.Tests.{eq-eqb, ne_eqb}
use Rattle.language.specs.Numbers.{then, check}
use Rattle.std.proofs.lemmas.Result.{err_from_is_err_and}
use Rattle.records.specs.Reading.{root_at}
use Rattle.reader.proofs.parts.root.Goals as goal

pub returns-in_err-r : goal.returns-in_err-r
unfolding root_at then check
returns-in_err-r c =
    let e = err_from_is_err_and c.from_residual.result c.from_residual.ensures.1 in
    rw (e.1, e.2) (rw (← c.in_err-r.ensures))

pub returns-then-end-s : goal.returns-then-end-s
unfolding root_at then check
returns-then-end-s c = rw (← c.in_ok-r.ensures, eq-eqb _ _ c.if-end-s.true)

pub returns : goal.returns
unfolding root_at then check
returns c = rw (← c.in_ok-r.ensures, ne_eqb _ _ c.if-end-s.false)
