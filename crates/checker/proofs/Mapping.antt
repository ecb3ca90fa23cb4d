-- What `map_err` gives, by what it was given.
use mathlib.Core.Path.{◌≡◌, refl, sym, ap, ◌∙◌}
use Rattle.std.specs.Prelude.{Result, Ok, Err}
use Rattle.std.specs.Result.{MatchResult, IsErrAnd}
use Rattle.theorems.proofs.Lists.{clash}

module _ {A E F : Type 0} (r : Result A E) (m : Result A F) (P : E → F → Type 0) (h : MatchResult r (λ x. m ≡ Ok x) (λ e. IsErrAnd m (P e))) where
  pub mapped_ok : (x : A) → m ≡ Ok x → r ≡ Ok x
  mapped_ok x e = go r h
    where
      go : (g : Result A E) → MatchResult g (λ y. m ≡ Ok y) (λ z. IsErrAnd m (P z)) → g ≡ Ok x
      go (Ok y) k = let z : y ≡ x = cc (sym k ∙ e) in ap Ok z
      go (Err z) k = absurd (rw e at k)

  pub mapped_err : (o : F) → m ≡ Err o → (x : E) × (r ≡ Err x) × P x o
  mapped_err o e = go r h
    where
      go : (g : Result A E) → MatchResult g (λ y. m ≡ Ok y) (λ z. IsErrAnd m (P z)) → (x : E) × (g ≡ Err x) × P x o
      go (Ok y) k = let z : Ok y ≡ Err o = sym k ∙ e in absurd (clash cc)
      go (Err z) k = (z, refl, rw e at k)
