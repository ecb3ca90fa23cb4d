-- The contracts allow one answer, and an argument that is not given is true.
use Prim.Native.Nat.{ℕ}
use mathlib.Core.Path.{◌≡◌, refl, sym, ◌∙◌}
use mathlib.Core.List.{List, [], ◌∷◌}
use Rattle.language.specs.Form.{Form, verum}
use Rattle.language.specs.Rules.{ruled}
use Rattle.std.specs.Prelude.{Result}
use Rattle.language.specs.declared.refusal.Why.{Why}
use Rattle.forms.specs.declared.Formed.{Formed}
use Rattle.rules.specs.Applied.{Ready, Ruling}

-- what is answered and what the table then holds
pub ruling_unique : (t₀ : List ℕ) (n : ℕ) (s : List ℕ) (b r x y z : ℕ) (t t' : List ℕ) (a a' : Result Formed Why) → Ready t₀ n s b x y z → Ruling t₀ n s b r x y z t a → Ruling t₀ n s b r x y z t' a' → (a ≡ a') × (t ≡ t')
ruling_unique t₀ n s b r x y z t t' a a' ready one other =
    let c = one.rules ready.formed.trees ready.formed.table in
    let d = other.rules ready.formed.trees ready.formed.table in
    (c.answer ∙ sym d.answer, c.words ∙ sym d.words)

-- an argument that is not given is true, which stands at 0
pub ruled_none : (r : ℕ) → ruled r [] ≡ ruled r (verum ∷ (verum ∷ (verum ∷ [])))
unfolding ruled
ruled_none r = refl

pub ruled_one : (r : ℕ) (X : Form) → ruled r (X ∷ []) ≡ ruled r (X ∷ (verum ∷ (verum ∷ [])))
unfolding ruled
ruled_one r X = refl

pub ruled_two : (r : ℕ) (X Y : Form) → ruled r (X ∷ (Y ∷ [])) ≡ ruled r (X ∷ (Y ∷ (verum ∷ [])))
unfolding ruled
ruled_two r X Y = refl
