-- What is derived in a base is derived, by the same work, in a larger one.
-- No rule of the language asks that something is not in the base, so a derivation stands as it is, rule by rule.
use Prim.Native.Nat.{ℕ}
use mathlib.Core.List.{List, [], ◌∷◌}
use Rattle.language.specs.Form.{Form}
use Rattle.language.specs.Syntax.{Phrase}
use Rattle.language.specs.Values.{Env}
use Rattle.language.specs.Run.{Derived, lemmas, joined}
use Rattle.language.specs.Derives.{Derives, applies_rule, applies_method, assumes, supposes, lets, announces, in_steps, dmatches}
use Rattle.language.specs.Derives.{Argues, by_value, by_lemma, Arguments, no_more, and_then, Steps, last, step}
use Rattle.theorems.proofs.Members.{◌⊆◌, cons_grows, members_grow}

joined_grows : (ds : List Derived) (β γ : List Form) → β ⊆ γ → joined ds β ⊆ joined ds γ
unfolding joined
joined_grows [] β γ k = k
joined_grows (d ∷ ds) β γ k = joined_grows ds (d.conclusion ∷ β) (d.conclusion ∷ γ) (cons_grows d.conclusion β γ k)

pub diluted : {fs : List Phrase} {n k w : ℕ} {e : Env} {β : List Form} {d : Derived} → Derives fs n e β k d w →
    (γ : List Form) → β ⊆ γ → Derives fs n e γ k d w
diluted {fs} x = elim x as
    (λ n e β k d w x. (γ : List Form) → β ⊆ γ → Derives fs n e γ k d w)
    (λ n e β k a w x. (γ : List Form) → β ⊆ γ → Argues fs n e γ k a w)
    (λ n e β ks as' w x. (γ : List Form) → β ⊆ γ → Arguments fs n e γ ks as' w)
    (λ n e β k js d w x. (γ : List Form) → β ⊆ γ → Steps fs n e γ k js d w) [
      | applies_rule {β = β} {premises = premises} {as' = as'} ps p f (xs → h) v l g m ↦ λ γ k.
          applies_rule ps p f (h γ k) v l g (members_grow premises (joined (lemmas as') β) (joined (lemmas as') γ) (joined_grows (lemmas as') β γ k) m)
      | applies_method {β = β} {as' = as'} p f (xs → h) l (b → i) ↦ λ γ k.
          applies_method p f (h γ k) l (i (joined (lemmas as') γ) (joined_grows (lemmas as') β γ k))
      | assumes {β = β} {p = p} q f (g → i) ↦ λ γ k. assumes q f (i (p ∷ γ) (cons_grows p β γ k))
      | supposes {β = β} {p = p} q f (g → i) ↦ λ γ k. supposes q f (i (p ∷ γ) (cons_grows p β γ k))
      | lets {β = β} {x = a} p (f → h) (g → i) ↦ λ γ k. lets p (h γ k) (i (joined a.lemma γ) (joined_grows a.lemma β γ k))
      | announces p (g → i) f ↦ λ γ k. announces p (i γ k) f
      | in_steps p (g → i) ↦ λ γ k. in_steps p (i γ k)
      | dmatches p (f → h) v c (g → i) ↦ λ γ k. dmatches p (h γ k) v c (i γ k)
      | by_value p v ↦ λ γ k. by_value p v
      | by_lemma p (g → i) ↦ λ γ k. by_lemma p (i γ k)
      | no_more ↦ λ γ k. no_more
      | and_then (f → h) (xs → i) ↦ λ γ k. and_then (h γ k) (i γ k)
      | last (g → i) ↦ λ γ k. last (i γ k)
      | step {β = β} {d = d} (g → h) (gs → i) ↦ λ γ k. step (h γ k) (i (d.conclusion ∷ γ) (cons_grows d.conclusion β γ k))
    ]
