-- A refusal is handed on; else the two numbers are stored in a row of zeros.
use Rattle.language.specs.Numbers.{then}
use Rattle.std.proofs.lemmas.Result.{err_from_is_err_and}
use Rattle.records.specs.Rows.{phrase_cells}
use Rattle.records.specs.Reading.{one_row}
use Rattle.phrases.proofs.before.Before.name.Goals as goal

pub returns-in_err-p : goal.returns-in_err-p
unfolding one_row then
returns-in_err-p c =
    let e = err_from_is_err_and c.from_residual.result c.from_residual.ensures.1 in
    rw (e.1, e.2) (rw (← c.in_err-p.ensures.0))

pub returns : goal.returns
unfolding one_row then phrase_cells
returns c = rw (← c.in_ok-p.ensures.0, c.put-2.ensures, c.put.ensures, c.requires.row_value)
