-- The reference is an earlier phrase's, and the tests say its kind.
use mathlib.Core.Path.{sym}
use borrow.Author.Tests.{eq-eqb, ne_eqb}
use Rattle.language.specs.Numbers.{then, check}
use Rattle.std.proofs.lemmas.Result.{err_from_is_err_and}
use Rattle.numbers.proofs.Bounds.{below_got}
use Rattle.records.specs.Reading.{row_ref}
use Rattle.phrases.specs.Shapes.{abstraction_row}
use Rattle.records.proofs.Tables.{rows_long}
use Rattle.phrases.proofs.before.Before.abstraction.Goals as goal
use Rattle.phrases.proofs.before.Before.abstraction.Goals.{then-kind-via-then-kind, then-kind-via-else-kind+then-kind-2}

pub returns-in_err-k : goal.returns-in_err-k
unfolding abstraction_row row_ref then check
returns-in_err-k c =
    let e = err_from_is_err_and c.from_residual.result c.from_residual.ensures.1 in
    rw (e.1, e.2) (rw (rows_long, ← c.in_err-k.ensures))

pub kind_of-kind-requires : goal.kind_of-kind-requires
kind_of-kind-requires c = (below_got _ _ _ _ _ (sym c.in_ok-k.ensures)).low

pub returns-then-kind : goal.returns-then-kind
unfolding abstraction_row row_ref then check
returns-then-kind c =
    let read = c.in_ok-k.ensures in
    let kind = c.kind_of-kind.ensures in
    elim c.then-kind.branch [
      | then-kind-via-then-kind w ↦ rw (rows_long, ← read, ← kind, eq-eqb _ _ w.if-kind.true)
      | then-kind-via-else-kind+then-kind-2 w ↦ rw (rows_long, ← read, ← kind, ne_eqb _ _ w.if-kind.false, eq-eqb _ _ w.if-kind-2.true)
    ]

pub returns : goal.returns
unfolding abstraction_row row_ref then check
returns c = rw (rows_long, ← c.in_ok-k.ensures, ← c.kind_of-kind.ensures, ne_eqb _ _ c.if-kind.false, ne_eqb _ _ c.if-kind-2.false)
