-- The clauses from the start are those stored, and the rest from here.
use mathlib.Core.Path.{refl}
use Rattle.std.proofs.lemmas.Result.{err_from_is_err_and}
use Rattle.phrases.proofs.OperandRuns.{at_start, at_end, stored_refused, stored_more}
use Rattle.phrases.proofs.before.Before.clause_list.Goals as goal

pub loop-i-init : goal.loop-i-init
loop-i-init c = at_start _ _ _ _ _

pub returns-in_err-p : goal.returns-in_err-p
returns-in_err-p c =
    let e = err_from_is_err_and c.from_residual.result c.from_residual.ensures.1 in
    rw (e.1, e.2) (stored_refused _ _ _ _ _ _ _ _ c.loop-i.invariant _ _ _ c.clause.ensures _ c.loop-i-test.true c.in_err-p.was)

pub loop-i-preserved : goal.loop-i-preserved
loop-i-preserved c = stored_more _ _ _ _ _ _ _ _ c.loop-i.invariant _ _ _ c.clause.ensures _ c.loop-i-test.true c.in_ok-p.was refl

pub returns : goal.returns
returns c = at_end _ _ _ _ _ _ _ _ c.loop-i.invariant c.loop-i-test.false
