-- References to the names in front of a buffer.
use Prim.Native.Nat.{ℕ, ◌<◌}
use mathlib.Core.Path.{◌≡◌}
use mathlib.Core.List.{List}
use native.Mathlib.Omega.{arith}
use lib.ListN.{length, get_or}
use Rattle.language.specs.Numbers.{Got, got, no, then, below}
use Rattle.numbers.proofs.Bounds.{not_got}
use Rattle.records.specs.Reading.{name_ref}

-- a name is one of the names
pub name_low : (s xs : List ℕ) (at v next : ℕ) → ((j : ℕ) → get_or xs j 0 < 16384) → name_ref s xs at ≡ got v next → v < 16384
unfolding name_ref then
name_low s xs at v next low e = go (below (length xs) s at) e
  where
    go : (g : Got ℕ) → then g (λ p. got (get_or xs p 0)) ≡ got v next → v < 16384
    go (got p m) f = let z : get_or xs p 0 ≡ v = cc in omega (arith, low p)
    go (no k q) f = not_got k q v next f
