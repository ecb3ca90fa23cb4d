-- The kind that was read picks the reader of the rest.
use mathlib.Core.Path.{sym}
use Rattle.language.specs.Numbers.{then, record_at}
use Rattle.std.proofs.lemmas.Result.{err_from_is_err_and}
use Rattle.records.specs.Reading.{phrase_row}
use Rattle.phrases.proofs.PhraseKinds.{row_shaped, row_none}
use Rattle.phrases.proofs.before.Before.phrase_row.Goals as goal

pub returns-in_err-kind : goal.returns-in_err-kind
unfolding phrase_row record_at then
returns-in_err-kind c =
    let e = err_from_is_err_and c.from_residual.result c.from_residual.ensures.1 in
    rw (e.1, e.2) (rw (← c.in_err-kind.ensures))

pub returns-then-kind : goal.returns-then-kind
returns-then-kind c = row_shaped _ _ _ _ _ _ _ (sym c.in_ok-kind.ensures) _ c.phrase_of.ensures

pub returns : goal.returns
returns c = row_none _ _ _ _ _ _ _ (sym c.in_ok-kind.ensures) c.if-kind.false
