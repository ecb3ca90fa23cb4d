-- A run seen from its end: if it ended with something, how that came about. `Ran` goes through each thing of which a run is made, so a proof
-- about the interpreter has the interpreter's own shape; a refusal proves itself.
use Prim.Native.Nat.{ℕ, suc, ◌+◌}
use native.Mathlib.Nat.{zero-add}
use native.Mathlib.Omega.{arith}
use mathlib.Core.Path.{◌≡◌, refl, ap}
use mathlib.Core.List.{List, [], ◌∷◌}
use mathlib.Core.Bool.{Bool, true, false}
use mathlib.Core.Option.{Option, some, none}
use lib.ListN.{length}
use Rattle.language.specs.Refusals.{premise_missing}
use Rattle.language.specs.Form.{Form, members}
use Rattle.language.specs.Rules.{Ruled, gives, misshapen}
use Rattle.language.specs.Syntax.{Clause, Phrase, expr, dedu, Expression, Deduction}
use Rattle.language.specs.Plain.{infer}
use Rattle.language.specs.Values.{Val, Env, form, con_v, rule_v, closure, empty, ◌▸◌, Out, out, stop, next, must, lookup, as_form, as_forms}
use Rattle.language.specs.Patterns.{fits, Choice, chosen, unfit, or_else, choose, on_choice}
use Rattle.language.specs.Run.{Derived, entering, on_expr, on_dedu, chained, after, inferred, derived}
use Rattle.language.specs.Derives.{Bound, here, there, First, fit, pass, all_forms}

-- `Ran P w o`: if the run o, begun with the budget w, ends with a, then P holds of a and of the work that was spent
pub data Ran {A : Type 0} (P : A → ℕ → Type 0) (w : ℕ) : Out A → Type 0 where
  stopped : {n k : ℕ} → Ran P w (stop n k)
  ended : {a : A} {w' : ℕ} (u : ℕ) → P a u → u + w' ≡ w → Ran P w (out a w')

pub done : {A : Type 0} {P : A → ℕ → Type 0} {a : A} {w : ℕ} → P a 0 → Ran P w (out a w)
done {w} p = ended 0 p (zero-add w)

pub so : {A : Type 0} {P Q : A → ℕ → Type 0} {w : ℕ} {o : Out A} → Ran P w o → ((a : A) (u : ℕ) → P a u → Q a u) → Ran Q w o
so stopped g = stopped
so (ended {a} u p e) g = ended u (g a u p) e

-- for each thing that a run is made of: it ran well, if what follows does
spending : {A : Type 0} {P : A → ℕ → Type 0} {w w₁ : ℕ} {o : Out A} (u : ℕ) → u + w₁ ≡ w → Ran (λ a v. P a (u + v)) w₁ o → Ran P w o
spending u e stopped = stopped
spending {w} u e (ended {w'} v p e') = let z : (u + v) + w' ≡ w = omega arith in ended (u + v) p z

pub on_next : {A B : Type 0} {P : A → ℕ → Type 0} {Q : B → ℕ → Type 0} {w : ℕ} {o : Out A} {f : A → ℕ → Out B} →
    Ran P w o → ((a : A) (u w₁ : ℕ) → P a u → Ran (λ b v. Q b (u + v)) w₁ (f a w₁)) → Ran Q w (next o f)
unfolding next
on_next stopped g = stopped
on_next (ended {a} {w'} u p e) g = spending u e (g a u w' p)

pub on_entering : {A : Type 0} {P : A → ℕ → Type 0} (k w : ℕ) {f : ℕ → Out A} →
    ((w₁ : ℕ) → Ran (λ a u. P a (1 + u)) w₁ (f w₁)) → Ran P w (entering k w f)
unfolding entering
on_entering k ℕ.zero g = stopped
on_entering k (ℕ.suc w) g = spending 1 (omega arith) (g w)

-- the first clause that fits
data Chooses (cs : List Clause) (p : Form) : Choice → Type 0 where
  chosen_first : {b : ℕ} {ps : List Form} → First cs p b ps → Chooses cs p (chosen b ps)
  none_fits : Chooses cs p unfit

passing : {c : Clause} {cs : List Clause} {p : Form} {x : Choice} → fits c.pattern p ≡ none → Chooses cs p x → Chooses (c ∷ cs) p x
passing e (chosen_first f) = chosen_first (pass e f)
passing e none_fits = none_fits

chooses : (cs : List Clause) (p : Form) → Chooses cs p (choose cs p)
unfolding choose
chooses [] p = none_fits
chooses (c ∷ cs) p = here_or_later (fits c.pattern p) refl (chooses cs p)
  where
    here_or_later : (x : Option (List Form)) → fits c.pattern p ≡ x → Chooses cs p (choose cs p) → Chooses (c ∷ cs) p (or_else x c.body (choose cs p))
    here_or_later none e later = passing e later
    here_or_later (some ps) e later = chosen_first (fit e)

module _ {A : Type 0} {P : A → ℕ → Type 0} {w : ℕ} where
  pub on_must : {o : Out A} (b : Bool) (n k : ℕ) → (b ≡ true → Ran P w o) → Ran P w (must b n k o)
  unfolding must
  on_must true n k g = g refl
  on_must false n k g = stopped

  pub on_expr_lem : {f : Expression → Out A} (x : Phrase) (n k : ℕ) →
      ((y : Expression) → x ≡ expr y → Ran P w (f y)) → Ran P w (on_expr x (stop n k) f)
  unfolding on_expr
  on_expr_lem (expr y) n k g = g y refl
  on_expr_lem (dedu d) n k g = stopped

  pub on_dedu_lem : {f : Deduction → Out A} (x : Phrase) (n k : ℕ) →
      ((d : Deduction) → x ≡ dedu d → Ran P w (f d)) → Ran P w (on_dedu x (stop n k) f)
  unfolding on_dedu
  on_dedu_lem (expr y) n k g = stopped
  on_dedu_lem (dedu d) n k g = g d refl

  -- values that must be propositions
  pub on_form : {f : Form → Out A} (v : Val) (k : ℕ) →
      ((p : Form) → v ≡ form p → Ran P w (f p)) → Ran P w (as_form v k f)
  unfolding as_form
  on_form (form p) k g = g p refl
  on_form (con_v c) k g = stopped
  on_form (rule_v r) k g = stopped
  on_form (closure s self n b e) k g = stopped

  pub on_forms : {f : List Form → Out A} (vs : List Val) (k : ℕ) →
      ((ps : List Form) → vs ≡ all_forms ps → Ran P w (f ps)) → Ran P w (as_forms vs k f)
  unfolding as_forms all_forms
  on_forms {f = f} [] k g = g [] refl
  on_forms {f = f} (v ∷ vs) k g = on_form v k (λ p e. on_forms {f = λ x. f (p ∷ x)} vs k (λ ps e'. g (p ∷ ps) (cc)))

  pub on_choice_lem : {f : ℕ → List Form → Out A} (cs : List Clause) (p : Form) (k : ℕ) →
      ((b : ℕ) (ps : List Form) → First cs p b ps → Ran P w (f b ps)) → Ran P w (on_choice (choose cs p) k f)
  unfolding on_choice
  on_choice_lem {f} cs p k g = go (chooses cs p)
    where
      go : {x : Choice} → Chooses cs p x → Ran P w (on_choice x k f)
      go (chosen_first {b} {ps} c) = g b ps c
      go none_fits = stopped

pub length_forms : (ps : List Form) → length (all_forms ps) ≡ length ps
unfolding all_forms
length_forms [] = refl
length_forms (p ∷ ps) = ap suc (length_forms ps)

-- bindings
pub on_lookup : {P : Val → ℕ → Type 0} (e : Env) (i k w : ℕ) → ((v : Val) → Bound e i v → P v 0) → Ran P w (lookup e i k w)
unfolding lookup
on_lookup empty i k w g = stopped
on_lookup (e ▸ v) ℕ.zero k w g = done (g v here)
on_lookup (e ▸ v) (ℕ.suc i) k w g = on_lookup e i k w (λ u b. g u (there b))

-- what derives: lemmas before it, a rule at its arguments
pub on_after : {P : Derived → ℕ → Type 0} {w : ℕ} {o : Out Derived} (ds : List Derived) →
    Ran (λ d. P (derived d.conclusion (chained ds d.proof))) w o → Ran P w (after ds o)
unfolding after
on_after ds stopped = stopped
on_after ds (ended u p e) = ended u p e

pub on_ruled : {P : Derived → ℕ → Type 0} (x : Ruled) (r : ℕ) (ps β : List Form) (k w : ℕ) →
    ((premises : List Form) (q : Form) → x ≡ gives premises q → members premises β ≡ true → P (derived q (infer r ps)) 0) →
    Ran P w (inferred x r ps β k w)
unfolding inferred
on_ruled misshapen r ps β k w g = stopped
on_ruled (gives premises q) r ps β k w g = on_must (members premises β) premise_missing k (λ m. done (g premises q refl m))
