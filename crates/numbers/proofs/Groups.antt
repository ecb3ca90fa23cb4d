-- The three forms of a number's bytes, and their lengths.
use Prim.Native.Nat.{ℕ, ◌+◌, ◌/◌, ◌%◌, ◌≤◌, ◌<◌}
use mathlib.Core.Path.{◌≡◌, ap}
use mathlib.Core.List.{[], ◌∷◌}
use native.Mathlib.Omega.{arith}
use lib.ListN.{length}
use borrow.Author.Tests.{lt-ltb, le-ltb}
use Rattle.language.specs.Numbers.{groups, pick}
use Rattle.theorems.proofs.Spelling.{one_group}

pub two_groups : (v : ℕ) → 128 ≤ v → v < 16384 → groups v ≡ (128 + v % 128) ∷ (v / 128 ∷ [])
unfolding groups pick
two_groups v h g = simp (le-ltb v 128 h, lt-ltb v 16384 g)

pub three_groups : (v : ℕ) → 16384 ≤ v → groups v ≡ (128 + v % 128) ∷ ((128 + v / 128 % 128) ∷ (v / 16384 ∷ []))
unfolding groups pick
three_groups v h =
    let g : 128 ≤ v = omega arith in
    simp (le-ltb v 128 g, le-ltb v 16384 h)

pub one_byte : (v : ℕ) → v < 128 → length (groups v) ≡ 1
one_byte v h = ap length (one_group v h)

pub two_bytes : (v : ℕ) → 128 ≤ v → v < 16384 → length (groups v) ≡ 2
two_bytes v h g = ap length (two_groups v h g)

pub three_bytes : (v : ℕ) → 16384 ≤ v → length (groups v) ≡ 3
three_bytes v h = ap length (three_groups v h)
