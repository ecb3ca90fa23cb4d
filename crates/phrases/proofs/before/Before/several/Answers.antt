-- The count is stored behind what the row has, and the operands behind the count.
use mathlib.Core.Path.{sym}
use native.Mathlib.Omega.{arith}
use Rattle.language.specs.Numbers.{then}
use Rattle.std.proofs.lemmas.Result.{err_from_is_err_and}
use Rattle.numbers.proofs.Bounds.{from_got}
use Rattle.records.specs.Reading.{several_row}
use Rattle.phrases.proofs.OperandRuns.{several_read}
use Rattle.phrases.proofs.before.Before.several.Goals as goal

pub returns-in_err-count : goal.returns-in_err-count
unfolding several_row then
returns-in_err-count c =
    let e = err_from_is_err_and c.from_residual.result c.from_residual.ensures.1 in
    rw (e.1, e.2) (rw (← c.in_err-count.ensures))

pub put-requires : goal.put-requires
put-requires c = let h = (from_got _ _ _ _ _ _ (sym c.in_ok-count.ensures)).to_top in let l = c.requires.bounds in omega arith

pub operands-requires : goal.operands-requires
operands-requires c = let h = (from_got _ _ _ _ _ _ (sym c.in_ok-count.ensures)).to_top in let l = c.requires.bounds in omega arith

pub returns : goal.returns
returns c = several_read _ _ _ _ _ _ _ _ _ _ c.requires.begun c.put.ensures _ _ c.requires.bounds (sym c.in_ok-count.ensures) c.operands.ensures
