-- Numbers as the code takes them from the bytes.
use Prim.Native.Nat.{ℕ}
use mathlib.Core.Path.{◌≡◌, refl}
use mathlib.Core.List.{List}
use Rattle.std.specs.Prelude.{Result, Ok, Err}
use Rattle.std.specs.Result.{result_unwrap_or}
use Rattle.language.specs.Numbers.{number}
use Rattle.language.specs.declared.refusal.Refusal.{Refusal}
use Rattle.numbers.specs.Gotten.{gotten}
use Rattle.checker.specs.Places.{value_of, next_of, value_at, next_at}

-- a number that is read, and one that is not
pub took : (s : List ℕ) (at : ℕ) (r : Result (ℕ × ℕ) Refusal) → gotten r ≡ number s at →
    ((result_unwrap_or r (0, at)).0 ≡ value_at s at) × ((result_unwrap_or r (0, at)).1 ≡ next_at s at)
unfolding value_at next_at value_of next_of
took s at (Ok p) e = rw (← e) (refl, refl)
took s at (Err x) e = rw (← e) (refl, refl)
