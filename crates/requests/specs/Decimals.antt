-- A number in decimal digits.
use Rattle.std.specs.Prelude.{ℕ, zero, suc, ◌+◌, ◌-◌, ◌*◌, List, ◌&&◌, get_or, leb, ltb, Option, Some, None}
use Rattle.std.specs.Option.{option_and_then}
use Rattle.requests.specs.Fields.{pick, nibble}

-- the number v with a digit after it, which must be at most 9; the number must fit 64 bits
unfoldable pub grown : ℕ → ℕ → Option ℕ
grown v d = pick (leb d 9 && leb (10 * v + d) 18446744073709551615) (Some (10 * v + d)) None

-- n digits from a place on, after those that say v; none may be missing
unfoldable pub counted : List ℕ → ℕ → ℕ → ℕ → Option ℕ
counted line zero at v = Some v
counted line (suc n) at v =
    option_and_then (λ d. option_and_then (counted line n (at + 1)) (grown v d)) (nibble (get_or line at 0))

-- the field from a place to another
abbrev pub decimal : List ℕ → ℕ → ℕ → Option ℕ
decimal line from to = pick (ltb from to) (counted line (to - from) from 0) None
