-- A front of n has at most n.
use mathlib.Core.List.{List, [], ◌∷◌}
use Prim.Native.Nat.{ℕ, zero, suc, ◌≤◌}
use native.Mathlib.Omega.{arith}
use lib.ListN.{length, take}

pub taken_few : (n m : ℕ) (l : List ℕ) → n ≤ m → length (take n l) ≤ m
taken_few zero m l h = omega arith
taken_few (suc n) m [] h = omega arith
taken_few (suc n) m (x ∷ l) h = let k = taken_few n n l (omega arith) in omega arith
