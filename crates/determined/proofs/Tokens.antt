-- The public functions of `tokens`: each by the equations that its contract has.
use mathlib.Core.Path.{refl, sym, ◌∙◌}
use Rattle.determined.specs.Once.{Once}
use Rattle.determined.specs.Tokens.{Tokens}
use Rattle.determined.proofs.Left.{pair}

pub tokens : Tokens
unfolding Once
tokens = record {
  sequence = λ κs a z z' ws ws' x y. (x.0 ∙ sym y.0, pair (x.1 ∙ sym y.1) refl);
  hypothesis = λ κs a z z' ws ws' x y. (x.0 ∙ sym y.0, pair (x.1 ∙ sym y.1) refl);
  rule = λ κs a z z' ws ws' x y. (x.0 ∙ sym y.0, pair (x.1 ∙ sym y.1) refl);
}
