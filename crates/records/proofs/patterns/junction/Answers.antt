-- A refusal is handed on; the counts are the sums of those of the two patterns that it is over, with one part more.
use mathlib.Core.Path.{sym}
use native.Mathlib.Omega.{arith}
use Rattle.language.specs.Numbers.{then}
use Rattle.std.proofs.lemmas.Result.{err_from_is_err_and}
use Rattle.numbers.proofs.Bounds.{below_got}
use Rattle.records.specs.Operands.{junction_row}
use Rattle.records.proofs.Tables.{rows_long}
use Rattle.records.proofs.patterns.junction.Goals as goal

pub returns-in_err-left : goal.returns-in_err-left
unfolding junction_row then
returns-in_err-left c =
    let e = err_from_is_err_and c.from_residual.result c.from_residual.ensures.1 in
    rw (e.1, e.2) (rw (rows_long, ← c.in_err-left.ensures))

pub returns-in_err-right : goal.returns-in_err-right
unfolding junction_row then
returns-in_err-right c =
    let e = err_from_is_err_and c.from_residual-in_err-right.result c.from_residual-in_err-right.ensures.1 in
    rw (e.1, e.2) (rw (rows_long, ← c.in_ok-left.ensures, ← c.in_err-right.ensures))

pub cell-requires : goal.cell-requires
cell-requires c = ((below_got _ _ _ _ _ (sym c.in_ok-left.ensures)).low, c.requires.n_bound, omega arith)

pub cell-requires-2 : goal.cell-requires-2
cell-requires-2 c = ((below_got _ _ _ _ _ (sym c.in_ok-right.ensures)).low, c.requires.n_bound, omega arith)

pub cell-requires-3 : goal.cell-requires-3
cell-requires-3 c = ((below_got _ _ _ _ _ (sym c.in_ok-left.ensures)).low, c.requires.n_bound, omega arith)

pub cell-requires-4 : goal.cell-requires-4
cell-requires-4 c = ((below_got _ _ _ _ _ (sym c.in_ok-right.ensures)).low, c.requires.n_bound, omega arith)

pub small-requires : goal.small-requires
small-requires c =
    let h = (below_got _ _ _ _ _ (sym c.in_ok-left.ensures)).low in
    let g = (below_got _ _ _ _ _ (sym c.in_ok-right.ensures)).low in
    let l = c.requires.n_bound in
    record { row_value = c.requires.row_value; parts_bound = (omega arith, omega arith) }

pub returns : goal.returns
unfolding junction_row then
returns c =
    rw (rows_long, ← c.in_ok-left.ensures, ← c.in_ok-right.ensures, ← c.cell.ensures.0, ← c.cell-2.ensures.0, ← c.cell-3.ensures.0, ← c.cell-4.ensures.0) c.small.ensures
