-- A refusal is handed on; both operands' numbers fit their bits.
use mathlib.Core.Path.{sym}
use Rattle.language.specs.Numbers.{then}
use Rattle.std.proofs.lemmas.Result.{err_from_is_err_and}
use Rattle.records.specs.Operands.{junction_word}
use Rattle.records.proofs.References.{name_low}
use Rattle.records.proofs.props.junction.Goals as goal

pub returns-in_err-p : goal.returns-in_err-p
unfolding junction_word then
returns-in_err-p c =
    let e = err_from_is_err_and c.from_residual.result c.from_residual.ensures.1 in
    rw (e.1, e.2) (rw (← c.in_err-p.ensures.0), tt)

pub returns-in_err-q : goal.returns-in_err-q
unfolding junction_word then
returns-in_err-q c =
    let e = err_from_is_err_and c.from_residual-in_err-q.result c.from_residual-in_err-q.ensures.1 in
    rw (e.1, e.2) (rw (← c.in_ok-p.ensures.0, ← c.in_err-q.ensures.0), tt)

pub word-requires : goal.word-requires
word-requires c =
    let low = c.requires.low in (name_low _ _ _ _ _ low (sym c.in_ok-p.ensures.0), name_low _ _ _ _ _ low (sym c.in_ok-q.ensures.0))

pub returns : goal.returns
unfolding junction_word then
returns c = (rw (← c.in_ok-p.ensures.0, ← c.in_ok-q.ensures.0, c.word.ensures.0), c.word.ensures.1)
