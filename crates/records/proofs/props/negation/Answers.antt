-- A refusal is handed on; the operand's number fits its bits.
use mathlib.Core.Path.{sym}
use native.Mathlib.Omega.{arith}
use Rattle.language.specs.Numbers.{then}
use Rattle.std.proofs.lemmas.Result.{err_from_is_err_and}
use Rattle.records.specs.Operands.{negation_word}
use Rattle.records.proofs.References.{name_low}
use Rattle.records.proofs.props.negation.Goals as goal

pub returns-in_err-p : goal.returns-in_err-p
unfolding negation_word then
returns-in_err-p c =
    let e = err_from_is_err_and c.from_residual.result c.from_residual.ensures.1 in
    rw (e.1, e.2) (rw (← c.in_err-p.ensures.0), tt)

pub word-requires : goal.word-requires
word-requires c = let h = name_low _ _ _ _ _ c.requires.low (sym c.in_ok-p.ensures.0) in (h, omega arith)

pub returns : goal.returns
unfolding negation_word then
returns c = (rw (← c.in_ok-p.ensures.0, c.word.ensures.0), c.word.ensures.1)
