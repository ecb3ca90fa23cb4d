-- One reference after another: what is left to read is what the definition has left.
use mathlib.Core.Path.{sym}
use Rattle.std.proofs.lemmas.Result.{err_from_is_err_and}
use Rattle.checker.proofs.Tallies.{referring_more, referring_refused, referring_all}
use Rattle.checker.proofs.reading.Reading.references.Goals as goal

pub returns-in_err-next : goal.returns-in_err-next
returns-in_err-next c =
    let e = err_from_is_err_and c.from_residual.result c.from_residual.ensures.1 in
    λ ps l. rw (e.1, e.2) (referring_refused _ _ _ _ _ _ c.loop.invariant c.loop-test.true _ _ (sym c.in_err-next.ensures) ps l)

pub loop-preserved : goal.loop-preserved
loop-preserved c = referring_more _ _ _ _ _ _ c.loop.invariant c.loop-test.true _ _ (sym c.in_ok-next.ensures)

pub returns : goal.returns
returns c = referring_all _ _ _ _ _ _ c.loop.invariant c.loop-test.false
