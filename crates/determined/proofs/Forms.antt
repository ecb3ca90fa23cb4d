-- The public functions of `forms`: each by the equations that its contract has.
use mathlib.Core.Path.{refl, sym, ◌∙◌}
use Rattle.forms.proofs.Interning.{interned_once}
use Rattle.forms.proofs.KindNumbers.{kind_once}
use Rattle.determined.specs.Once.{Once}
use Rattle.determined.specs.Forms.{Forms}
use Rattle.determined.proofs.Left.{pair}

pub forms : Forms
unfolding Once
forms = record {
  start = λ κs a z z' ws ws' x y. (x.0 ∙ sym y.0, pair (x.1 ∙ sym y.1) refl);
  atom = λ κs a z z' ws ws' x y. let (e, f) = interned_once _ _ _ _ _ z z' x y in (e, pair f refl);
  negation = λ κs a z z' ws ws' x y. let (e, f) = interned_once _ _ _ _ _ z z' x y in (e, pair f refl);
  conjunction = λ κs a z z' ws ws' x y. let (e, f) = interned_once _ _ _ _ _ z z' x y in (e, pair f refl);
  disjunction = λ κs a z z' ws ws' x y. let (e, f) = interned_once _ _ _ _ _ z z' x y in (e, pair f refl);
  conditional = λ κs a z z' ws ws' x y. let (e, f) = interned_once _ _ _ _ _ z z' x y in (e, pair f refl);
  biconditional = λ κs a z z' ws ws' x y. let (e, f) = interned_once _ _ _ _ _ z z' x y in (e, pair f refl);
  form = λ κs a z z' ws ws' x y. let (e, f) = interned_once _ _ _ _ _ z z' x y in (e, pair f refl);
  intern = λ κs a z z' ws ws' x y. let (e, f) = interned_once _ _ _ _ _ z z' x y in (e, pair f refl);
  find = λ κs a z z' ws ws' x y. (x ∙ sym y, refl);
  word = λ κs a z z' ws ws' x y. (x.0 ∙ sym y.0, refl);
  kind_of = λ κs a z z' ws ws' x y. (x ∙ sym y, refl);
  left_of = λ κs a z z' ws ws' x y. (x ∙ sym y, refl);
  right_of = λ κs a z z' ws ws' x y. (x ∙ sym y, refl);
  kind_kind_of = λ κs a z z' ws ws' x y. (x ∙ sym y, refl);
  kind_kind_number = λ κs a z z' ws ws' x y. (x ∙ sym y, refl);
  kind_kind_of_word = λ κs a z z' ws ws' x y. (kind_once _ _ (x ∙ sym y), refl);
  kind_kind_word = λ κs a z z' ws ws' x y. (x.0 ∙ sym y.0, refl);
}
