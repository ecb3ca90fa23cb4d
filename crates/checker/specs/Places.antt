-- Numbers at places of bytes that have been read once and found in order, and listing numbers taken to the table's.
use Rattle.std.specs.Prelude.{ℕ, Bool, true, false, List, get_or, ltb}
use Rattle.language.specs.Numbers.{Got, got, no, number}
use Rattle.checker.specs.declared.walking.Arguments.{Arguments}

-- a reading's value, 0 where there is none
unfoldable pub value_of : Got ℕ → ℕ
value_of (got v next) = v
value_of (no n p) = 0

-- the place past it, where there is one
unfoldable pub next_of : ℕ → Got ℕ → ℕ
next_of at (got v next) = next
next_of at (no n p) = at

-- the number at a place, and the place past it
unfoldable pub value_at : List ℕ → ℕ → ℕ
unfolding value_of number
value_at s at = value_of (number s at)

unfoldable pub next_at : List ℕ → ℕ → ℕ
unfolding next_of number
next_at s at = next_of at (number s at)

-- the table's number of the proposition whose listing number stands at a place
abbrev pub name_at : List ℕ → List ℕ → ℕ → ℕ
name_at names s at = get_or names (value_at s at) 0

-- an argument where there is one, else true, which stands at 0; and the place past it
unfoldable pub name_if : Bool → List ℕ → List ℕ → ℕ → ℕ
name_if true names s at = name_at names s at
name_if false names s at = 0

unfoldable pub next_if : Bool → List ℕ → ℕ → ℕ
next_if true s at = next_at s at
next_if false s at = at

-- k arguments from a place on, at most three
unfoldable pub arguments_at : List ℕ → List ℕ → ℕ → ℕ → Arguments
unfolding name_if next_if
arguments_at names s k at =
    let b = next_if (ltb 0 k) s at in
    let c = next_if (ltb 1 k) s b in
    record { x = name_if (ltb 0 k) names s at; y = name_if (ltb 1 k) names s b; z = name_if (ltb 2 k) names s c; next = next_if (ltb 2 k) s c }
