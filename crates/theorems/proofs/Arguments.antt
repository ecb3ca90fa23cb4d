-- The arguments of a rule: there are at most three, and it looks at the first three.
use Prim.Native.Nat.{ℕ, zero, suc, ◌≤◌}
use mathlib.Core.Path.{◌≡◌, ap, ◌∙◌}
use mathlib.Core.List.{List, [], ◌∷◌}
use native.Mathlib.Omega.{arith}
use lib.ListN.{get_or}
use Rattle.language.specs.Form.{Form, verum}
use Rattle.language.specs.Rules.{arity, misshapen, table, ruled}

AtMost : ℕ → List ℕ → Type 0
AtMost m [] = Unit {0}
AtMost m (x ∷ xs) = (x ≤ m) × AtMost m xs

at_most : (m : ℕ) (xs : List ℕ) → AtMost m xs → (r : ℕ) → get_or xs r 0 ≤ m
unfolding AtMost
at_most m [] h r = omega arith
at_most m (x ∷ xs) h zero = h.0
at_most m (x ∷ xs) h (suc r) = at_most m xs h.1 r

-- no rule takes more than three arguments
pub three : (r : ℕ) → get_or arity r 0 ≤ 3
unfolding AtMost
three =
    let one : 1 ≤ 3 = omega arith in
    let two : 2 ≤ 3 = omega arith in
    let none : 0 ≤ 3 = omega arith in
    let all : 3 ≤ 3 = omega arith in
    at_most 3 arity (one, (two, (two, (one, (two, (one, (one, (two, (two, (all, (two, (one, (one, (none, (two, (none, tt))))))))))))))))

-- a rule looks at its first three arguments
pub ruled_at : (r : ℕ) (X Y Z : Form) (xs : List Form) → X ≡ get_or xs 0 verum → Y ≡ get_or xs 1 verum → Z ≡ get_or xs 2 verum → ruled r (X ∷ (Y ∷ (Z ∷ []))) ≡ ruled r xs
unfolding ruled
ruled_at r X Y Z xs x y z =
    ap (λ (u : Form). get_or (table u Y Z) r misshapen) x
    ∙ ap (λ (u : Form). get_or (table (get_or xs 0 verum) u Z) r misshapen) y
    ∙ ap (λ (u : Form). get_or (table (get_or xs 0 verum) (get_or xs 1 verum) u) r misshapen) z
