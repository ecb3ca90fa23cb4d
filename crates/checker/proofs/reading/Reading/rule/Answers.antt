-- The rule is read, then as many references as it has arguments.
use mathlib.Core.Path.{sym}
use Rattle.std.proofs.lemmas.Result.{err_from_is_err_and}
use Rattle.checker.proofs.Tallies.{rule_refused, arguments_refused, rule_tallied}
use Rattle.checker.proofs.reading.Reading.rule.Goals as goal

pub returns-in_err-rule : goal.returns-in_err-rule
returns-in_err-rule c =
    let e = err_from_is_err_and c.from_residual.result c.from_residual.ensures.1 in
    λ ps at l. rw (e.1, e.2) (rule_refused _ _ _ _ _ (sym c.in_err-rule.ensures) ps at)

pub returns-in_err-end : goal.returns-in_err-end
returns-in_err-end c =
    let e = err_from_is_err_and c.from_residual-in_err-end.result c.from_residual-in_err-end.ensures.1 in
    λ ps at l. rw (e.1, e.2) (arguments_refused _ _ _ _ _ (sym c.in_ok-rule.ensures) _ c.arguments.ensures ps at _ _ (c.in_err-end.ensures ps l))

pub returns : goal.returns
returns c = λ ps at l. rule_tallied _ _ _ _ _ (sym c.in_ok-rule.ensures) _ c.arguments.ensures ps at _ (c.in_ok-end.ensures ps l)
