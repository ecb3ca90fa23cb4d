-- The atom's number is at most 255, so that it fits its bits.
use mathlib.Core.Path.{sym}
use native.Mathlib.Omega.{arith}
use Rattle.language.specs.Numbers.{then}
use Rattle.std.proofs.lemmas.Result.{err_from_is_err_and}
use Rattle.numbers.proofs.Bounds.{from_got}
use Rattle.records.specs.Operands.{atom_word}
use Rattle.records.proofs.props.atom.Goals as goal

pub word-requires : goal.word-requires
word-requires c = let h = (from_got _ _ _ _ 0 255 (sym c.in_ok-a.ensures)).to_top in (omega arith, omega arith)

pub returns-in_err-a : goal.returns-in_err-a
unfolding atom_word then
returns-in_err-a c = let e = err_from_is_err_and c.from_residual.result c.from_residual.ensures.1 in rw (e.1, e.2) (simp (← c.in_err-a.ensures), tt)

pub returns : goal.returns
unfolding atom_word then
returns c = (simp (← c.in_ok-a.ensures, c.word.ensures.0), c.word.ensures.1)
