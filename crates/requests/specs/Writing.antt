-- Bytes written in hexadecimal.
use Rattle.std.specs.Prelude.{ℕ, ◌+◌, ◌/◌, ◌%◌, List, [], ◌∷◌, ltb}
use Rattle.requests.specs.Fields.{pick}

-- the character of a digit's value
abbrev pub digit_of : ℕ → ℕ
digit_of v = pick (ltb v 10) (v + 48) (v + 87)

-- two digits for each byte, the high one first
abbrev pub hex_of : List ℕ → List ℕ
hex_of [] = []
hex_of (b ∷ bs) = digit_of (b / 16) ∷ (digit_of (b % 16) ∷ hex_of bs)
