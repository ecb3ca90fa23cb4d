-- Values from their numbers, and a chain followed by one binding.
use Rattle.std.specs.Prelude.{Some, None}
use mathlib.Core.Path.{◌≡◌, refl, ◌∙◌}
use mathlib.Core.List.{List, [], ◌∷◌}
use Prim.Native.Nat.{ℕ, zero, suc, ◌+◌, ◌*◌, ◌-◌, ◌≤◌, ◌<◌}
use native.Mathlib.Omega.{arith}
use native.Mathlib.Numerals.{sub-one}
use lib.ListN.{length, get_or}
use lib.Seq.{sets}
use Rattle.words.proofs.Runs.{before, within}
use Rattle.bindings.specs.declared.Value.{Value}
use Rattle.bindings.specs.declared.Value.TheVariants.{Prop, Constructor, Rule, Function, Method}
use Rattle.bindings.specs.Numbers.{closure_of, value_of, numbers_of, value_at, next_at, first, beyond, found, Kept}

-- a kind that is none of the first four is a method's
pub value_4 : (a b k : ℕ) → (k ≡ 0 → ⊥) → (k ≡ 1 → ⊥) → (k ≡ 2 → ⊥) → (k ≡ 3 → ⊥) → Method (closure_of a b) ≡ value_of k a b
unfolding value_of
value_4 a b zero e f g h = absurd (e refl)
value_4 a b (suc zero) e f g h = absurd (f refl)
value_4 a b (suc (suc zero)) e f g h = absurd (g refl)
value_4 a b (suc (suc (suc zero))) e f g h = absurd (h refl)
value_4 a b (suc (suc (suc (suc k)))) e f g h = refl

-- a binding stored as number n

module _ (t : List ℕ) (n next : ℕ) (room : 4 * n + 4 ≤ length t) where
  cell : (k a b i : ℕ) → i < 4 → get_or (sets t (4 * n) (k ∷ a ∷ b ∷ next ∷ [])) (4 * n + i) 0 ≡ get_or (k ∷ a ∷ b ∷ next ∷ []) i 0
  cell k a b i h = within (k ∷ a ∷ b ∷ next ∷ []) t (4 * n) i h room

  value_back : (k a b : ℕ) → value_at (sets t (4 * n) (k ∷ a ∷ b ∷ next ∷ [])) n ≡ value_of k a b
  value_back k a b =
      let e : 4 * n + 0 ≡ 4 * n = omega arith in
      let c₀ = rw e at (cell k a b 0 (omega arith)) in
      rw (c₀, cell k a b 1 (omega arith), cell k a b 2 (omega arith))

  pub stored_value : (v : Value) → value_at (sets t (4 * n) (numbers_of v next)) n ≡ v
  unfolding value_of
  stored_value (Prop p) = value_back 0 p 0
  stored_value (Constructor c) = value_back 1 c 0
  stored_value (Rule r) = value_back 2 r 0
  stored_value (Function f) = value_back 3 f.phrase f.env
  stored_value (Method f) = value_back 4 f.phrase f.env

  pub stored_next : (v : Value) → next_at (sets t (4 * n) (numbers_of v next)) n ≡ next
  stored_next (Prop p) = cell 0 p 0 3 (omega arith)
  stored_next (Constructor c) = cell 1 c 0 3 (omega arith)
  stored_next (Rule r) = cell 2 r 0 3 (omega arith)
  stored_next (Function f) = cell 3 f.phrase f.env 3 (omega arith)
  stored_next (Method f) = cell 4 f.phrase f.env 3 (omega arith)

-- bindings that are kept

module _ (t t' : List ℕ) (n : ℕ) (kept : Kept t t' n) where
  pub kept_value : (j : ℕ) → j < n → value_at t' j ≡ value_at t j
  kept_value j h = rw (kept (4 * j) (omega arith), kept (4 * j + 1) (omega arith), kept (4 * j + 2) (omega arith))

  pub kept_next : (j : ℕ) → j < n → next_at t' j ≡ next_at t j
  kept_next j h = kept (4 * j + 3) (omega arith)

pub kept_stored : (t xs : List ℕ) (n : ℕ) → Kept t (sets t (4 * n) xs) n
kept_stored t xs n i h = before xs t (4 * n) i h

pub kept_then : (t t' t'' : List ℕ) (n n' : ℕ) → n ≤ n' → Kept t t' n → Kept t' t'' n' → Kept t t'' n
kept_then t t' t'' n n' h k l i r = l i (omega arith) ∙ k i r

-- one step along a chain

module _ (t : List ℕ) where
  pub found_end : (x i : ℕ) → x ≤ 0 → None ≡ found t x i
  unfolding found first beyond
  found_end zero zero h = refl
  found_end zero (suc i) h = refl
  found_end (suc x) i h = absurd (omega arith)

  pub found_here : (x i : ℕ) → 0 < x → i ≡ 0 → Some (value_at t (x - 1)) ≡ found t x i
  unfolding found first
  found_here zero i h e = absurd (omega arith)
  found_here (suc x) i h e = rw (e, sub-one)

  pub found_on : (x i : ℕ) → 0 < x → (i ≡ 0 → ⊥) → found t x i ≡ found t (next_at t (x - 1)) (i - 1)
  unfolding found beyond
  found_on zero i h e = absurd (omega arith)
  found_on (suc x) zero h e = absurd (e refl)
  found_on (suc x) (suc i) h e = rw (sub-one, sub-one)
