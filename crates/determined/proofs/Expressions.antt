-- The public functions of `expressions`: `evaluate` by what its value stands for, the others by the equations that their contracts have.
use mathlib.Core.Path.{refl, sym, ◌∙◌}
use Rattle.expressions.specs.Machine.{machine, out_of}
use Rattle.determined.specs.Once.{Once, AnyTwo}
use Rattle.determined.specs.Expressions.{Expressions}
use Rattle.determined.proofs.Left.{pair}
use Rattle.determined.proofs.Alike.{values_by}

pub expressions : Expressions
unfolding Once AnyTwo
expressions = record {
  evaluate = λ κs a q z z' ws ws' x y. (
    values_by q.text.rows _ q.formed _ (out_of (machine ws.0) z) (out_of (machine ws'.0) z')
        (x.1.0.meets q.text q.formed q.bound q.world q.row q.chain) (y.1.0.meets q.text q.formed q.bound q.world q.row q.chain),
    record {
      forms = y.0.forms ∙ sym x.0.forms;
      binds = y.0.binds ∙ sym x.0.binds;
      phrases = y.0.phrases ∙ sym x.0.phrases;
      patterns = y.0.patterns ∙ sym x.0.patterns;
      forms_long = y.0.forms_long ∙ sym x.0.forms_long;
      binds_long = y.0.binds_long ∙ sym x.0.binds_long;
    },
  );
  bind_value = λ κs a z z' ws ws' x y. (x.0 ∙ sym y.0, pair (x.1 ∙ sym y.1) refl);
  bind_parts = λ κs a z z' ws ws' x y. (x.0 ∙ sym y.0, pair (x.1 ∙ sym y.1) refl);
}
