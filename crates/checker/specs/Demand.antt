-- Demand 2 of the door `check`, over any result that its contract allows.
use Rattle.std.specs.Prelude.{ℕ, ◌≡◌, true, List, [], ◌∷◌, ◌↔◌, length, get_or, Result}
use Rattle.language.specs.Form.{falsum, State, holds, holds_all}
use Rattle.language.specs.Syntax.{Sheet}
use Rattle.language.specs.Numbers.{got}
use Rattle.language.specs.Read.{sheet}
use Rattle.language.specs.Plain.{Proves, inferences}
use Rattle.language.specs.Check.{Certificate, certificate_at, plain}
use Rattle.language.specs.Doors.{checked_numbers, check_lengths, enough}
use Rattle.language.specs.declared.refusal.Refusal.{Refusal}
use Rattle.language.specs.declared.Stands.{Stands}
use Rattle.checker.specs.Verdicts.{scratch, Checks}

-- for a sheet that reads and scratch long enough, the answer is 0, k and i exactly when the certificate's bytes read within the limits
-- and the plain rules derive their stated conclusion, number k, by i inferences
unfoldable pub CheckExactly : Type 0
CheckExactly =
    (s bytes : List ℕ) (r : Result Stands Refusal) (ns₀ fs₀ ps₀ hs₀ bs₀ ns fs ps hs bs : List ℕ) → Checks s bytes r ns₀ fs₀ ps₀ hs₀ bs₀ ns fs ps hs bs →
    enough check_lengths (scratch ns₀ fs₀ ps₀ hs₀ bs₀) ≡ true → (S : Sheet) (end k i : ℕ) → sheet s ≡ got S end →
    (checked_numbers r ≡ 0 ∷ (k ∷ (i ∷ [])))
    ↔ ((c : Certificate) × (certificate_at bytes ≡ got c (length bytes)) × (c.conclusion ≡ k)
    × Proves S.base (plain c.proof) (get_or c.forms k falsum) × (i ≡ inferences (plain c.proof)))

-- and then the conclusion is true in every valve state that makes the sheet's base true
unfoldable pub CheckTrue : Type 0
CheckTrue =
    (s bytes : List ℕ) (r : Result Stands Refusal) (ns₀ fs₀ ps₀ hs₀ bs₀ ns fs ps hs bs : List ℕ) → Checks s bytes r ns₀ fs₀ ps₀ hs₀ bs₀ ns fs ps hs bs →
    enough check_lengths (scratch ns₀ fs₀ ps₀ hs₀ bs₀) ≡ true → (S : Sheet) (end k i : ℕ) → sheet s ≡ got S end →
    checked_numbers r ≡ 0 ∷ (k ∷ (i ∷ [])) →
    (c : Certificate) × (certificate_at bytes ≡ got c (length bytes))
    × ((σ : State) → holds_all σ S.base ≡ true → holds σ (get_or c.forms k falsum) ≡ true)
