-- What a reading that was not refused has read, part by part.
use Prim.Native.Nat.{ℕ}
use mathlib.Core.Path.{◌≡◌}
use mathlib.Core.List.{List}
use Rattle.language.specs.Numbers.{got, number}
use Rattle.checker.specs.Places.{value_of, next_of, value_at, next_at}

-- one value and one place
pub got_both : {A : Type 0} (a b : A) (n m : ℕ) → got a n ≡ got b m → (a ≡ b) × (n ≡ m)
got_both a b n m e = (cc, cc)

-- the number that was read
pub number_got : (s : List ℕ) (at v next : ℕ) → number s at ≡ got v next → (value_at s at ≡ v) × (next_at s at ≡ next)
unfolding value_at next_at value_of next_of
number_got s at v next e = (rw e, rw e)
