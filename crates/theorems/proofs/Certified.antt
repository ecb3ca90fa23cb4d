-- What a deduction derives, its plain proof proves: in the same base, with the same conclusion.
-- Lemmas, each proved in the caller's base, are run in a row in bases that have it.
use Prim.Native.Nat.{ℕ}
use mathlib.Core.Path.{◌≡◌, refl}
use mathlib.Core.List.{List, [], ◌∷◌}
use mathlib.Core.Bool.{true}
use Rattle.language.specs.Form.{Form, cond, falsum, neg, bin, members}
use Rattle.language.specs.Rules.{ruled}
use Rattle.language.specs.Syntax.{Phrase}
use Rattle.language.specs.Plain.{Plain, Proves, by_rule, in_turn, assuming}
use Rattle.language.specs.Values.{Env}
use Rattle.language.specs.Run.{Derived, lemmas, joined, chained, refuted}
use Rattle.language.specs.Derives.{Derives, applies_rule, applies_method, assumes, supposes, lets, announces, in_steps, dmatches}
use Rattle.language.specs.Derives.{by_value, by_lemma, no_more, and_then, last, step}
use Rattle.theorems.specs.Lists.{All}
use Rattle.theorems.proofs.Lists.{all_append, all_map}
use Rattle.theorems.proofs.Members.{◌∈◌, ◌⊆◌, in_head, in_cons, cons_grows, members_grow}

-- a larger base proves no less
pub proves_grows : {β : List Form} {D : Plain} {q : Form} (γ : List Form) → β ⊆ γ → Proves β D q → Proves γ D q
proves_grows {β} γ k (by_rule {premises = premises} l w m) = by_rule l w (members_grow premises β γ k m)
proves_grows {β} γ k (in_turn {p = p} x y) = in_turn (proves_grows γ k x) (proves_grows (p ∷ γ) (cons_grows p β γ k) y)
proves_grows {β} γ k (assuming {p = p} x) = assuming (proves_grows (p ∷ γ) (cons_grows p β γ k) x)

-- lemmas proved in a base, then a proof in the base joined with them
abbrev Proved : List Form → Derived → Type 0
Proved β d = Proves β d.proof d.conclusion

chained_proves : (ds : List Derived) (β : List Form) {D : Plain} {q : Form} → All (Proved β) ds → Proves (joined ds β) D q → Proves β (chained ds D) q
unfolding joined chained
chained_proves [] β h x = x
chained_proves (d ∷ ds) β h x =
    let γ = d.conclusion ∷ β in
    in_turn h.0 (chained_proves ds γ (all_map (Proved β) (Proved γ) (λ e y. proves_grows γ (in_cons d.conclusion β) y) ds h.1) x)

-- the plain proof of suppose-absurd
refuted_proves : (p : Form) (β : List Form) {D : Plain} → Proves (p ∷ β) D falsum → Proves β (refuted p D) (neg p)
unfolding refuted ruled members
refuted_proves p β x =
    let c = bin cond p falsum in
    let γ = neg falsum ∷ (c ∷ β) in
    let has-c : c ∈ γ = in_cons (neg falsum) (c ∷ β) c (in_head c β) in
    let has-n : neg falsum ∈ γ = in_head (neg falsum) (c ∷ β) in
    let both : members (c ∷ (neg falsum ∷ [])) γ ≡ true = rw (has-c, has-n) in
    in_turn (assuming x) (in_turn (by_rule {premises = []} refl refl refl) (by_rule refl refl both))

-- the certificate lemma
pub certified : {fs : List Phrase} {n k w : ℕ} {e : Env} {β : List Form} {d : Derived} → Derives fs n e β k d w → Proves β d.proof d.conclusion
unfolding lemmas
certified x = elim x as
    (λ n e β k d w x. Proved β d)
    (λ n e β k a w x. All (Proved β) a.lemma)
    (λ n e β ks as' w x. All (Proved β) (lemmas as'))
    (λ n e β k js d w x. Proved β d) [
      | applies_rule {β = β} {as' = as'} ps p f (xs → h) v l g m ↦ chained_proves (lemmas as') β h (by_rule l g m)
      | applies_method {β = β} {as' = as'} p f (xs → h) l (b → i) ↦ chained_proves (lemmas as') β h i
      | assumes p f (g → i) ↦ assuming i
      | supposes {β = β} {p = p} q f (g → i) ↦ refuted_proves p β i
      | lets {β = β} {x = a} p (f → h) (g → i) ↦ chained_proves a.lemma β h i
      | announces p (g → i) f ↦ i
      | in_steps p (g → i) ↦ i
      | dmatches p f v c (g → i) ↦ i
      | by_value p v ↦ tt
      | by_lemma p (g → i) ↦ (i, tt)
      | no_more ↦ tt
      | and_then {β = β} {x = a} {xs = as'} (f → h) (xs → i) ↦ all_append (Proved β) a.lemma (lemmas as') h i
      | last (g → i) ↦ i
      | step (g → h) (gs → i) ↦ in_turn h i
    ]
