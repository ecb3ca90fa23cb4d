-- The public functions of `records`: each by the equations that its contract has.
use mathlib.Core.Path.{refl, sym, ◌∙◌}
use Rattle.numbers.proofs.Answers.{gotten_once}
use Rattle.records.proofs.Once.{put_once}
use Rattle.determined.specs.Once.{Once}
use Rattle.determined.specs.Records.{Records}
use Rattle.determined.proofs.Left.{pair}

pub records : Records
unfolding Once
records = record {
  names_name_ref = λ κs a z z' ws ws' x y. (gotten_once z z' (x.0 ∙ sym y.0), refl);
  names_cell = λ κs a z z' ws ws' x y. (x.0 ∙ sym y.0, refl);
  props_word_at = λ κs a z z' ws ws' x y. (gotten_once z z' (x.0 ∙ sym y.0), refl);
  pattern_kind_pattern_kind_of = λ κs a z z' ws ws' x y. (x ∙ sym y, refl);
  pattern_kind_pattern_kind_number = λ κs a z z' ws ws' x y. (x ∙ sym y, refl);
  phrase_kind_phrase_kind_of = λ κs a z z' ws ws' x y. (x ∙ sym y, refl);
  phrase_kind_phrase_kind_number = λ κs a z z' ws ws' x y. (x ∙ sym y, refl);
  patterns_read_pattern = λ κs a z z' ws ws' x y. let (e, f) = put_once _ _ z z' _ _ _ _ x y in (e, pair f refl);
  rows_lay = λ κs a z z' ws ws' x y. (refl, pair (x ∙ sym y) refl);
}
