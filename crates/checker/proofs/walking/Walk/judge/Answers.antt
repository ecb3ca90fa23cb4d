-- The walk's refusal is the check's; its conclusion is the stated one, or not.
use Rattle.std.proofs.lemmas.Result.{err_from_is_err_and}
use Rattle.checker.proofs.Judging.{judge_walks, judge_refused, judge_stands, judge_differs}
use Rattle.checker.proofs.walking.Walk.judge.Goals as goal

pub node-requires : goal.node-requires
node-requires c = judge_walks _ _ _ _ _ _ _ _ c.requires.long c.requires.small c.requires

pub returns-in_err-w : goal.returns-in_err-w
returns-in_err-w c =
    let e = err_from_is_err_and c.from_residual.result c.from_residual.ensures.1 in
    rw (e.1, e.2) (judge_refused _ _ _ _ _ _ _ _ c.requires.long c.requires.small _ _ _ c.in_err-w.ensures.walks)

pub returns-then-w-at : goal.returns-then-w-at
returns-then-w-at c =
    judge_stands _ _ _ _ _ _ _ _ c.requires.long c.requires.small _ _ _ c.in_ok-w.ensures.walks c.in_ok-w.ensures.same.forms_long _ (rw c.in_ok-w.ensures.same.names at c.at.ensures) c.if-w-at.true

pub returns : goal.returns
returns c =
    judge_differs _ _ _ _ _ _ _ _ c.requires.long c.requires.small _ _ _ c.in_ok-w.ensures.walks c.in_ok-w.ensures.same.forms_long _ (rw c.in_ok-w.ensures.same.names at c.at.ensures) c.if-w-at.false
