-- Decimal digits read one after another: the number from here on.
use Rattle.std.proofs.Common.{◌≡◌, ℕ, suc, ◌+◌, ◌-◌, ◌*◌, ◌<◌, ◌≤◌, List, get_or, Some, None, arith}
use borrow.Author.Tests.{le-leb, lt-leb}
use Rattle.std.specs.Option.{option_and_then}
use Rattle.requests.specs.Fields.{nibble}
use Rattle.requests.specs.Decimals.{counted, grown}

pub counted_more : (line : List ℕ) (to i v : ℕ) → i < to →
    counted line (to - i) i v ≡ option_and_then (λ d. option_and_then (counted line (to - (i + 1)) (i + 1)) (grown v d)) (nibble (get_or line i 0))
unfolding counted
counted_more line to i v h = let z : to - i ≡ suc (to - (i + 1)) = omega arith in rw z

pub counted_all : (line : List ℕ) (to i v : ℕ) → to ≤ i → counted line (to - i) i v ≡ Some v
unfolding counted
counted_all line to i v h = let z : to - i ≡ 0 = omega arith in rw z

pub grown_digit : (v d : ℕ) → d ≤ 9 → v * 10 + d < 18446744073709551616 → grown v d ≡ Some (v * 10 + d)
unfolding grown
grown_digit v d h f = let e : 10 * v + d ≡ v * 10 + d = omega arith in rw (le-leb d 9 h, e, le-leb (v * 10 + d) 18446744073709551615 (omega arith))

pub grown_letter : (v d : ℕ) → 9 < d → grown v d ≡ None
unfolding grown
grown_letter v d h = rw (lt-leb d 9 h)

pub grown_large : (v d : ℕ) → d ≤ 9 → 18446744073709551616 ≤ v * 10 + d → grown v d ≡ None
unfolding grown
grown_large v d h f = rw (le-leb d 9 h, lt-leb (10 * v + d) 18446744073709551615 (omega arith))

pub ruleset counting = (counted_more, counted_all, grown_digit, grown_letter, grown_large)
