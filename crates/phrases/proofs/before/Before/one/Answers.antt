-- A refusal is handed on; else the two numbers are stored in a row of zeros.
use mathlib.Core.Path.{sym}
use Rattle.language.specs.Numbers.{then}
use Rattle.std.proofs.lemmas.Result.{err_from_is_err_and}
use Rattle.records.specs.Rows.{phrase_cells}
use Rattle.records.specs.Reading.{one_row}
use Rattle.phrases.proofs.OperandRuns.{operand_fits}
use Rattle.phrases.proofs.before.Before.one.Goals as goal

pub returns-in_err-x : goal.returns-in_err-x
unfolding one_row then
returns-in_err-x c =
    let e = err_from_is_err_and c.from_residual.result c.from_residual.ensures.1 in
    rw (e.1, e.2) (rw (← c.in_err-x.ensures))

pub put-requires-2 : goal.put-requires-2
put-requires-2 c = operand_fits _ _ _ c.args.self.few_phrases _ _ _ _ (sym c.in_ok-x.ensures)

pub returns : goal.returns
unfolding one_row then phrase_cells
returns c = rw (← c.in_ok-x.ensures, c.put-2.ensures, c.put.ensures, c.requires.row_value)
