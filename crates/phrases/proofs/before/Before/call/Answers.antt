-- The kind and the expression begin the row; the arguments follow.
use mathlib.Core.Path.{sym}
use Rattle.language.specs.Numbers.{then}
use Rattle.std.proofs.lemmas.Result.{err_from_is_err_and}
use Rattle.phrases.proofs.OperandRuns.{operand_fits, two_taken}
use Rattle.phrases.proofs.before.Before.call.Goals as goal

pub returns-in_err-e : goal.returns-in_err-e
unfolding then
returns-in_err-e c =
    let e = err_from_is_err_and c.from_residual.result c.from_residual.ensures.1 in
    rw (e.1, e.2) (rw (← c.in_err-e.ensures))

pub put-requires-2 : goal.put-requires-2
put-requires-2 c = operand_fits _ _ _ c.args.self.few_phrases _ _ _ _ (sym c.in_ok-e.ensures)

pub returns : goal.returns
unfolding then
returns c = rw (← c.in_ok-e.ensures, ← two_taken _ _ _ c.requires.row_value c.put.ensures _ _ c.put-2.ensures) c.several.ensures
