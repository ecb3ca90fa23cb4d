-- Tokens written at the end of those in use.
use mathlib.Core.Path.{◌≡◌, sym, ap, ◌∙◌}
use mathlib.Core.List.{List, [], ◌∷◌, ◌++◌, append_assoc}
use Prim.Native.Nat.{ℕ, ◌+◌, ◌≤◌}
use native.Mathlib.Omega.{arith}
use native.Mathlib.Nat.{le_refl}
use lib.ListN.{length, take, drop, length-append}
use lib.Seq.{sets, sets-eq, length-sets, take_at, length-take-le}
use Rattle.words.proofs.Runs.{take_before, sets_sets}
use Rattle.deductions.specs.Machine.{tollens}

pub take_sets : (xs t : List ℕ) (n : ℕ) → n + length xs ≤ length t → take (n + length xs) (sets t n xs) ≡ take n t ++ xs
take_sets xs t n h =
    let l = length-take-le n t (omega arith) in
    ap (λ (u : List ℕ). take (n + length xs) u) (sets-eq xs t n h) ∙ take_at (take n t ++ xs) (drop (n + length xs) t) (n + length xs) (length-append (take n t) xs ∙ omega arith)

-- the first of a run are in use, the others lie past them
pub take_run : (xs ys t : List ℕ) (n k : ℕ) → k ≡ n + length xs → k ≤ length t → take k (sets t n (xs ++ ys)) ≡ take n t ++ xs
take_run xs ys t n k e h =
    rw e
    (ap (take (n + length xs)) (sym (sets_sets xs ys t n)) ∙ take_before ys (sets t n xs) (n + length xs) (n + length xs) (le_refl (n + length xs))
    ∙ take_sets xs t n (omega arith))

-- a 1, a rule without arguments and a rule with two
pub tollens_told : (t t₁ t₂ t₃ : List ℕ) (n n₁ n₂ n₃ x y : ℕ) → n + 8 ≤ length t
    → (n₁ ≡ n + 1) × (t₁ ≡ sets t n (1 ∷ [])) → (n₂ ≡ n₁ + 2 + 0) × (t₂ ≡ sets t₁ n₁ (0 ∷ 15 ∷ 0 ∷ 0 ∷ 0 ∷ [])) → (n₃ ≡ n₂ + 2 + 2) × (t₃ ≡ sets t₂ n₂ (0 ∷ 2 ∷ x ∷ y ∷ 0 ∷ []))
    → (n₃ ≡ n + 7) × (take (n + 7) t₃ ≡ take n t ++ tollens x y)
tollens_told t t₁ t₂ t₃ n n₁ n₂ n₃ x y h (e₁, w₁) (e₂, w₂) (e₃, w₃) =
    let l₁ : length t₁ ≡ length t = ap (λ (u : List ℕ). length u) w₁ ∙ length-sets t n (1 ∷ []) in
    let l₂ : length t₂ ≡ length t₁ = ap (λ (u : List ℕ). length u) w₂ ∙ length-sets t₁ n₁ (0 ∷ 15 ∷ 0 ∷ 0 ∷ 0 ∷ []) in
    let z : n + 7 ≡ n₂ + 4 = omega arith in
    let y₂ : n₂ ≡ n₁ + 2 = omega arith in
    let a : take n₁ t₁ ≡ take n t ++ (1 ∷ []) = ap (take n₁) w₁ ∙ take_run (1 ∷ []) [] t n n₁ e₁ (omega arith) in
    let b : take n₂ t₂ ≡ take n₁ t₁ ++ (0 ∷ 15 ∷ []) = ap (take n₂) w₂ ∙ take_run (0 ∷ 15 ∷ []) (0 ∷ 0 ∷ 0 ∷ []) t₁ n₁ n₂ y₂ (omega arith) in
    let c : take (n + 7) t₃ ≡ take n₂ t₂ ++ (0 ∷ 2 ∷ x ∷ y ∷ []) = ap (take (n + 7)) w₃ ∙ take_run (0 ∷ 2 ∷ x ∷ y ∷ []) (0 ∷ []) t₂ n₂ (n + 7) z (omega arith) in (
      omega arith,
      c ∙ ap (λ (u : List ℕ). u ++ (0 ∷ 2 ∷ x ∷ y ∷ [])) (b ∙ ap (λ (u : List ℕ). u ++ (0 ∷ 15 ∷ [])) a)
          ∙ append_assoc (take n t ++ (1 ∷ [])) (0 ∷ 15 ∷ []) (0 ∷ 2 ∷ x ∷ y ∷ []) ∙ append_assoc (take n t) (1 ∷ []) (0 ∷ 15 ∷ 0 ∷ 2 ∷ x ∷ y ∷ []),
    )
