-- A number on the stack, looked for from the top down.
use Prim.Native.Nat.{ℕ, zero, suc, ◌-◌, ◌≤◌, ◌<◌}
use mathlib.Core.Path.{◌≡◌, refl}
use mathlib.Core.Bool.{false, ◌||◌}
use mathlib.Core.List.{List}
use native.Mathlib.Omega.{arith}
use native.Mathlib.Numerals.{sub-one}
use lib.ListN.{get_or}
use lib.Dec.{eqb}
use Rattle.rules.specs.Base.{within}

module _ (p : ℕ) (s : List ℕ) where
  pub within_step : (b : ℕ) → 0 < b → within p s b ≡ eqb p (get_or s (b - 1) 0) || within p s (b - 1)
  unfolding within
  within_step zero h = absurd (omega arith)
  within_step (suc b) h = rw sub-one

  pub within_none : (b : ℕ) → b ≤ 0 → within p s b ≡ false
  unfolding within
  within_none zero h = refl
  within_none (suc b) h = absurd (omega arith)
