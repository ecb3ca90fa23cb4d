-- The public functions of `requests`: each by the equations that its contract has.
use mathlib.Core.Path.{refl, sym, ◌∙◌}
use Rattle.determined.specs.Once.{Once}
use Rattle.determined.specs.Requests.{Requests}
use Rattle.determined.proofs.Left.{pair}

pub requests : Requests
unfolding Once
requests = record {
  field_end = λ κs a z z' ws ws' x y. (x ∙ sym y, refl);
  read_hex = λ κs a z z' ws ws' x y. (x.answer ∙ sym y.answer, pair (x.bytes ∙ sym y.bytes) refl);
  read_decimal = λ κs a z z' ws ws' x y. (x ∙ sym y, refl);
  write_hex = λ κs a z z' ws ws' x y. (refl, pair (x ∙ sym y) refl);
}
