-- Lemmas before a proof are one proof; lemmas before lemmas are lemmas; what a rule's tokens tell.
use mathlib.Core.Path.{◌≡◌, ap, ◌∙◌}
use mathlib.Core.List.{List, [], ◌∷◌, ◌++◌, append_assoc}
use Prim.Native.Nat.{ℕ}
use Rattle.language.specs.Form.{Form}
use Rattle.language.specs.Plain.{Plain}
use Rattle.language.specs.Run.{Derived, chained}
use Rattle.tokens.specs.Tells.{Tells, TellsLemmas}

pub lemmas_then : (fs : List Form) (ds : List Derived) (D : Plain) (us ts : List ℕ) → TellsLemmas fs ds us → Tells fs D ts → Tells fs (chained ds D) (us ++ ts)
unfolding Tells TellsLemmas chained
lemmas_then fs [] D us ts x y = rw x y
lemmas_then fs (d ∷ ds) D us ts x y =
    let e : us ++ ts ≡ 1 ∷ (x.0 ++ (x.1 ++ ts)) = ap (λ (l : List ℕ). l ++ ts) x.2 ∙ ap (λ (l : List ℕ). 1 ∷ l) (append_assoc x.0 x.1 ts) in
    (x.0, x.1 ++ ts, e, x.3, lemmas_then fs ds D x.1 ts x.4 y)

pub lemmas_join : (fs : List Form) (ds es : List Derived) (us vs : List ℕ) → TellsLemmas fs ds us → TellsLemmas fs es vs → TellsLemmas fs (ds ++ es) (us ++ vs)
unfolding TellsLemmas
lemmas_join fs [] es us vs x y = rw x y
lemmas_join fs (d ∷ ds) es us vs x y =
    let e : us ++ vs ≡ 1 ∷ (x.0 ++ (x.1 ++ vs)) = ap (λ (l : List ℕ). l ++ vs) x.2 ∙ ap (λ (l : List ℕ). 1 ∷ l) (append_assoc x.0 x.1 vs) in
    (x.0, x.1 ++ vs, e, x.3, lemmas_join fs ds es x.1 vs x.4 y)
