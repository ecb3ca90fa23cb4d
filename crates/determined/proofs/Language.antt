-- The public functions of `language`: each by the equations that its contract has.
use mathlib.Core.Path.{refl, sym, ◌∙◌}
use Rattle.determined.specs.Once.{Once}
use Rattle.determined.specs.Language.{Language}

pub language : Language
unfolding Once
language = record {
  arguments = λ κs a z z' ws ws' x y. (x ∙ sym y, refl);
  node_node_of = λ κs a z z' ws ws' x y. (x ∙ sym y, refl);
  refusal_why_number = λ κs a z z' ws ws' x y. (x ∙ sym y, refl);
  rule_rule_of = λ κs a z z' ws ws' x y. (x ∙ sym y, refl);
  rule_rule_number = λ κs a z z' ws ws' x y. (x ∙ sym y, refl);
}
