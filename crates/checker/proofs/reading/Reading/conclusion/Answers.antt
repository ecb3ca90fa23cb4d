-- The number is read, and the bytes end with it or go on.
use mathlib.Core.Path.{sym}
use Rattle.std.proofs.lemmas.Result.{err_from_is_err_and}
use Rattle.checker.proofs.Statements.{conclusion_refused, conclusion_read, conclusion_goes_on}
use Rattle.checker.proofs.reading.Reading.conclusion.Goals as goal

pub returns-in_err-conclusion : goal.returns-in_err-conclusion
returns-in_err-conclusion c =
    let e = err_from_is_err_and c.from_residual.result c.from_residual.ensures.1 in
    rw (e.1, e.2) (conclusion_refused _ _ _ _ _ _ (sym c.in_err-conclusion.ensures))

pub returns-then-end-self : goal.returns-then-end-self
returns-then-end-self c = conclusion_read _ _ _ _ _ _ (sym c.in_ok-conclusion.ensures) c.if-end-self.true

pub returns : goal.returns
returns c = conclusion_goes_on _ _ _ _ _ _ (sym c.in_ok-conclusion.ensures) c.if-end-self.false
