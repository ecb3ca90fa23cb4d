-- The public functions of `words`: each by the equations that its contract has.
use mathlib.Core.Path.{refl, sym, ◌∙◌}
use Rattle.determined.specs.Once.{Once}
use Rattle.determined.specs.Words.{Words}
use Rattle.determined.proofs.Left.{pair}

pub words : Words
unfolding Once
words = record {
  at = λ κs a z z' ws ws' x y. (x ∙ sym y, refl);
  put = λ κs a z z' ws ws' x y. (refl, pair (x ∙ sym y) refl);
  wipe = λ κs a z z' ws ws' x y. (refl, pair (x ∙ sym y) refl);
  put_all = λ κs a z z' ws ws' x y. (refl, pair (x ∙ sym y) refl);
}
