-- The public functions of `patterns`: each by the equations that its contract has.
use mathlib.Core.Path.{refl, sym, ◌∙◌}
use Rattle.patterns.proofs.Once.{fits_once, chosen_once}
use Rattle.determined.specs.Once.{Once, AnyTwo}
use Rattle.determined.specs.Patterns.{Patterns}

pub patterns : Patterns
unfolding Once AnyTwo
patterns = record {
  choose = λ κs a q z z' ws ws' x y. (chosen_once _ _ _ _ _ _ z z' q x y, refl);
  tried = λ κs a q z z' ws ws' x y. (fits_once _ _ _ _ _ z z' q x y, refl);
  nothing = λ κs a z z' ws ws' x y. (x ∙ sym y, refl);
}
