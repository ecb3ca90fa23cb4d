-- The reference is an earlier phrase's, and the test says its class.
use mathlib.Core.Path.{sym}
use borrow.Author.Tests.{lt-ltb, le-ltb}
use Rattle.language.specs.Numbers.{then, check}
use Rattle.std.proofs.lemmas.Result.{err_from_is_err_and}
use Rattle.numbers.proofs.Bounds.{below_got}
use Rattle.records.specs.Reading.{row_ref, expr_row}
use Rattle.records.proofs.Tables.{rows_long}
use Rattle.phrases.proofs.before.Before.expression.Goals as goal

pub returns-in_err-k : goal.returns-in_err-k
unfolding expr_row row_ref then check
returns-in_err-k c =
    let e = err_from_is_err_and c.from_residual.result c.from_residual.ensures.1 in
    rw (e.1, e.2) (rw (rows_long, ← c.in_err-k.ensures))

pub kind_of-requires : goal.kind_of-requires
kind_of-requires c = (below_got _ _ _ _ _ (sym c.in_ok-k.ensures)).low

pub returns-then-kind_of : goal.returns-then-kind_of
unfolding expr_row row_ref then check
returns-then-kind_of c = rw (rows_long, ← c.in_ok-k.ensures, ← c.kind_of.ensures, lt-ltb _ _ c.if-kind_of.true)

pub returns : goal.returns
unfolding expr_row row_ref then check
returns c = rw (rows_long, ← c.in_ok-k.ensures, ← c.kind_of.ensures, le-ltb _ _ c.if-kind_of.false)
