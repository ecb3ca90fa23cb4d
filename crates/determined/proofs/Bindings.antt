-- The public functions of `bindings`: each by the equations that its contract has.
use mathlib.Core.Path.{refl, sym, ◌∙◌}
use Rattle.determined.specs.Once.{Once}
use Rattle.determined.specs.Bindings.{Bindings}
use Rattle.determined.proofs.Left.{pair}

pub bindings : Bindings
unfolding Once
bindings = record {
  lookup = λ κs a z z' ws ws' x y. (x ∙ sym y, refl);
  push = λ κs a z z' ws ws' x y. (refl, pair (x ∙ sym y) refl);
  load = λ κs a z z' ws ws' x y. (x ∙ sym y, refl);
  scope = λ κs a z z' ws ws' x y. (x ∙ sym y, refl);
}
