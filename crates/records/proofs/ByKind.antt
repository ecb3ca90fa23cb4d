-- What holds of each kind: of so many numbers from one on, as a tuple that reads like the table.
use Prim.Native.Nat.{ℕ, zero, suc, ◌+◌, ◌≤◌, ◌<◌}
use mathlib.Core.Path.{◌≡◌, subst}
use mathlib.Core.List.{List}
use native.Mathlib.Omega.{arith}
use native.Mathlib.Decide.{dec_lt}
use lib.ListN.{get_or}
use mathlib.Core.Logic.{◌⊎◌, inl, inr}
use Rattle.std.specs.Prelude.{Some}
use Rattle.language.specs.Numbers.{Got}
use Rattle.records.specs.PatternNumbers.{pattern_number, pattern_kind_of}
use Rattle.records.specs.declared.pattern_kind.PatternKind.{PatternKind}
use Rattle.records.specs.declared.pattern_kind.PatternKind.TheVariants.{And, Or, If, Iff}
use Rattle.records.proofs.PatternNumbers.{number_is}
use Rattle.records.specs.Reading.{pattern_row_kinds}
use Rattle.records.specs.Operands.{junction_row}

-- n numbers from k on
abbrev pub Each : (ℕ → Type 0) → ℕ → ℕ → Type 0
Each P k zero = Unit {0}
Each P k (suc n) = P k × Each P (suc k) n

pub each_at : (P : ℕ → Type 0) (k n : ℕ) → Each P k n → (j : ℕ) → k ≤ j → j < k + n → P j
each_at P k zero e j h l = absurd (omega arith)
each_at P k (suc n) e j h l = go (dec_lt k j) (λ b. each_at P (suc k) n e.1 j b (omega arith))
  where
    go : Dec (k < j) → (k < j → P j) → P j
    go (yes b) f = f b
    go (no b) f = let z : k ≡ j = omega arith in subst P z e.0

-- one number is ruled out
pub past : (n k : ℕ) → n ≤ k → (k ≡ n → ⊥) → suc n ≤ k
past n k h f = go (dec_lt n k)
  where
    go : Dec (n < k) → suc n ≤ k
    go (yes b) = b
    go (no b) = let z : k ≡ n = omega arith in absurd (f z)

-- the rows of patterns over two
pub row_junction : (s names : List ℕ) (rows : List (List ℕ)) (start : ℕ) (d : ℕ → Got (List ℕ)) (a n : ℕ) (k : PatternKind) → Some k ≡ pattern_kind_of n → (k ≡ And) ⊎ ((k ≡ Or) ⊎ ((k ≡ If) ⊎ (k ≡ Iff))) → get_or (pattern_row_kinds s names rows start) n d a ≡ junction_row s rows (pattern_number k) start a
unfolding pattern_row_kinds junction_row
row_junction s names rows start d a n k e (inl f) = rw (number_is n k And e f, f)
row_junction s names rows start d a n k e (inr (inl f)) = rw (number_is n k Or e f, f)
row_junction s names rows start d a n k e (inr (inr (inl f))) = rw (number_is n k If e f, f)
row_junction s names rows start d a n k e (inr (inr (inr f))) = rw (number_is n k Iff e f, f)
