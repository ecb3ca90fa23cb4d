-- The public function of `deductions`: by what conclusion and tokens tell.
use mathlib.Core.Path.{sym, ◌∙◌}
use Rattle.deductions.specs.Machine.{run, out_of}
use Rattle.determined.specs.Once.{AnyTwo}
use Rattle.determined.specs.Deductions.{Deductions}
use Rattle.determined.proofs.Alike.{conclusions_by}

pub deductions : Deductions
unfolding AnyTwo
deductions = record {
  deduce = λ κs a q z z' ws ws' x y.
      let r = q.0 in (
        conclusions_by _ _ r.formed _ (out_of (run ws.0) z) (out_of (run ws'.0) z')
            (x.1.0.meets r.text r.formed r.bindings r.basis r.setting r.row) (y.1.0.meets r.text r.formed r.bindings r.basis r.setting r.row),
        record {
          forms = y.0.forms ∙ sym x.0.forms;
          binds = y.0.binds ∙ sym x.0.binds;
          base = y.0.base ∙ sym x.0.base;
          tokens = y.0.tokens ∙ sym x.0.tokens;
          phrases = y.0.phrases ∙ sym x.0.phrases;
          patterns = y.0.patterns ∙ sym x.0.patterns;
          forms_long = y.0.forms_long ∙ sym x.0.forms_long;
          binds_long = y.0.binds_long ∙ sym x.0.binds_long;
          base_long = y.0.base_long ∙ sym x.0.base_long;
          tokens_long = y.0.tokens_long ∙ sym x.0.tokens_long;
        },
      );
}
