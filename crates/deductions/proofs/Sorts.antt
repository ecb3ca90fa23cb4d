-- A value that is a proposition, and one that is not.
use mathlib.Core.Path.{◌≡◌, refl, sym, ap, subst, ◌∙◌}
use mathlib.Core.Bool.{true, false}
use mathlib.Core.List.{List}
use Prim.Native.Nat.{ℕ}
use native.Mathlib.Omega.{arith}
use Rattle.language.specs.Refusals.{wrong_kind}
use Rattle.language.specs.Form.{Form}
use Rattle.language.specs.Syntax.{function, method}
use Rattle.language.specs.Values.{Val, form, con_v, rule_v, closure, Out, stop, as_form}
use Rattle.bindings.specs.declared.Value.{Value}
use Rattle.bindings.specs.declared.Value.TheVariants.{Prop, Constructor, Rule, Function, Method}
use Rattle.bindings.specs.Stands.{Is, Stands}
use Rattle.bindings.proofs.Tags.{tag, held}

-- no proposition
abbrev pub Otherwise : Value → Type 0
Otherwise v = tag v ≡ 0 → ⊥

pub otherwise : (v : Value) → ((p : ℕ) → v ≡ Prop p → ⊥) → Otherwise v
otherwise (Prop p) h z = h p refl
otherwise (Constructor c) h z = omega arith
otherwise (Rule r) h z = omega arith
otherwise (Function f) h z = omega arith
otherwise (Method f) h z = omega arith

module _ (rows : List (List ℕ)) (fs : List Form) (t : List ℕ) (n : ℕ) where
  pub proposition : (X : Val) (v : Value) (p : ℕ) → Stands rows fs t n X v → v ≡ Prop p → (P : Form) × (X ≡ form P) × Is fs p P
  unfolding Stands
  proposition (form P) v p x e =
      let y : x.0 ≡ p = ap held (sym x.1 ∙ e) in
      (P, refl, subst (λ (q : ℕ). Is fs q P) y x.2)
  proposition (con_v c) v p x e = absurd (let z = ap tag (sym x.0 ∙ e) in omega arith)
  proposition (rule_v r) v p x e = absurd (let z = ap tag (sym x.0 ∙ e) in omega arith)
  proposition (closure function false m b i) v p x e = absurd (let z = ap tag (sym x.1 ∙ e) in omega arith)
  proposition (closure method false m b i) v p x e = absurd (let z = ap tag (sym x.1 ∙ e) in omega arith)
  proposition (closure function true m b i) v p x e = absurd (let z = ap tag (sym x.2 ∙ e) in omega arith)
  proposition (closure method true m b i) v p x e = absurd (let z = ap tag (sym x.2 ∙ e) in omega arith)

  pub no_proposition : {A : Type 0} (X : Val) (v : Value) (k : ℕ) (f : Form → Out A) → Stands rows fs t n X v → Otherwise v → as_form X k f ≡ stop wrong_kind k
  unfolding Stands as_form
  no_proposition (form P) v k f x e = absurd (e (ap tag x.1))
  no_proposition (con_v c) v k f x e = refl
  no_proposition (rule_v r) v k f x e = refl
  no_proposition (closure s self m b i) v k f x e = refl
