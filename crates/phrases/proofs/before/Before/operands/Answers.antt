-- The operands from the start are those stored, and the rest from here.
use mathlib.Core.Path.{sym}
use native.Mathlib.Omega.{arith}
use Rattle.std.proofs.lemmas.Result.{err_from_is_err_and}
use Rattle.phrases.proofs.OperandRuns.{operand_fits, at_end, at_refused, at_more}
use Rattle.phrases.proofs.before.Before.operands.Goals as goal

pub returns-in_err-x : goal.returns-in_err-x
returns-in_err-x c =
    let e = err_from_is_err_and c.from_residual.result c.from_residual.ensures.1 in
    rw (e.1, e.2) (at_refused _ _ _ _ _ _ _ _ c.loop-i.invariant _ _ c.loop-i-test.true (sym c.in_err-x.ensures))

pub put-requires : goal.put-requires
put-requires c = operand_fits _ _ _ c.args.self.few_phrases _ _ _ _ (sym c.in_ok-x.ensures)

pub loop-i-preserved : goal.loop-i-preserved
loop-i-preserved c = at_more _ _ _ _ _ _ _ _ c.loop-i.invariant _ _ _ _ c.loop-i-test.true (sym c.in_ok-x.ensures) (omega arith) c.put.ensures

pub returns : goal.returns
returns c = at_end _ _ _ _ _ _ _ _ c.loop-i.invariant c.loop-i-test.false
