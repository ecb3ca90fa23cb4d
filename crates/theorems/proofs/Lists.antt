-- Laws of `All`, and of lookups in range; and two constructors are never equal.
use Prim.Native.Nat.{ℕ, zero, suc, ◌<◌}
use native.Mathlib.Omega.{arith}
use mathlib.Core.Path.{◌≡◌, refl}
use mathlib.Core.List.{List, [], ◌∷◌, ◌++◌}
use lib.ListN.{length, get_or}
use Rattle.theorems.specs.Lists.{All}

module _ {A : Type 0} (G : A → Type 0) where
  pub all_append : (l m : List A) → All G l → All G m → All G (l ++ m)
  all_append [] m h g = g
  all_append (a ∷ l) m h g = (h.0, all_append l m h.1 g)

  pub all_snoc : (l : List A) (a : A) → All G l → G a → All G (l ++ (a ∷ []))
  all_snoc l a h g = all_append l (a ∷ []) h (g, tt)

  pub all_get_d : (l : List A) (i : ℕ) (d : A) → All G l → G d → G (get_or l i d)
  all_get_d [] i d h g = g
  all_get_d (a ∷ l) zero d h g = h.0
  all_get_d (a ∷ l) (suc i) d h g = all_get_d l i d h.1 g

  pub all_at : (l : List A) (i : ℕ) (d : A) → All G l → i < length l → G (get_or l i d)
  all_at [] i d h low = absurd (omega arith)
  all_at (a ∷ l) zero d h low = h.0
  all_at (a ∷ l) (suc i) d h low = all_at l i d h.1 (omega arith)

  pub all_map : (H : A → Type 0) → ((a : A) → G a → H a) → (l : List A) → All G l → All H l
  all_map H f [] h = tt
  all_map H f (a ∷ l) h = (f a h.0, all_map H f l h.1)

-- a lookup in range needs no default
pub get_d_within : {A : Type 0} (l : List A) (i : ℕ) (x y : A) → i < length l → get_or l i x ≡ get_or l i y
get_d_within [] i x y h = absurd (omega arith)
get_d_within (a ∷ l) zero x y h = refl
get_d_within (a ∷ l) (suc i) x y h = get_d_within l i x y (omega arith)

-- the rows of a table, one below the other, each with its proof
infixr 5 ◌&◌
pub ◌&◌ : {A B : Type 0} → A → B → A × B
a & b = (a, b)

-- equations that cannot all hold prove this one, by `cc`
pub clash : ◌≡◌ {A = ℕ} 0 1 → ⊥
clash e = omega arith
