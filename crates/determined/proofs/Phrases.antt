-- The public functions of `phrases`: each by the equations that its contract has.
use mathlib.Core.Path.{refl, sym, ◌∙◌}
use Rattle.numbers.proofs.Answers.{gotten_once}
use Rattle.records.proofs.Once.{put_once}
use Rattle.determined.specs.Once.{Once}
use Rattle.determined.specs.Phrases.{Phrases}
use Rattle.determined.proofs.Left.{pair}

pub phrases : Phrases
unfolding Once
phrases = record {
  read_phrase = λ κs a z z' ws ws' x y. let (e, f) = put_once _ _ z z' _ _ _ _ x y in (e, pair f refl);
  deduction = λ κs a z z' ws ws' x y. (gotten_once z z' (x ∙ sym y), refl);
  shape_shape_of = λ κs a z z' ws ws' x y. (x ∙ sym y, refl);
}
