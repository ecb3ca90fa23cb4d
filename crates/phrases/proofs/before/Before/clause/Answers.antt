-- A refusal is handed on; else the two numbers are stored at their place.
use mathlib.Core.Path.{sym}
use native.Mathlib.Omega.{arith}
use native.Mathlib.Numerals.{add-one}
use Rattle.language.specs.Numbers.{then}
use Rattle.std.proofs.lemmas.Result.{err_from_is_err_and}
use Rattle.numbers.proofs.Bounds.{below_got}
use Rattle.records.specs.Reading.{clause_row}
use Rattle.phrases.proofs.OperandRuns.{operand_fits}
use Rattle.phrases.proofs.before.Before.clause.Goals as goal

pub returns-in_err-q : goal.returns-in_err-q
unfolding clause_row then
returns-in_err-q c =
    let e = err_from_is_err_and c.from_residual.result c.from_residual.ensures.1 in
    rw (e.1, e.2) (rw (← c.in_err-q.ensures))

pub returns-in_err-k : goal.returns-in_err-k
unfolding clause_row then
returns-in_err-k c =
    let e = err_from_is_err_and c.from_residual-in_err-k.result c.from_residual-in_err-k.ensures.1 in
    rw (e.1, e.2) (rw (← c.in_ok-q.ensures, ← c.in_err-k.ensures))

pub put-requires : goal.put-requires
put-requires c = let h = (below_got _ _ _ _ _ (sym c.in_ok-q.ensures)).low in let l = c.args.self.few_patterns in omega arith

pub put-requires-2 : goal.put-requires-2
put-requires-2 c = operand_fits _ _ _ c.args.self.few_phrases _ _ _ _ (sym c.in_ok-k.ensures)

pub returns : goal.returns
unfolding clause_row then
returns c = rw (← c.in_ok-q.ensures, ← c.in_ok-k.ensures, c.put-2.ensures, c.put.ensures, add-one)
