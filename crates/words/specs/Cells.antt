-- Numbers that fit a cell of a buffer.
use Rattle.std.specs.Prelude.{ℕ, ◌<◌, ◌^◌, List, [], ◌∷◌}

-- each of them does
abbrev pub Narrow : List ℕ → Type 0
Narrow [] = Unit {0}
Narrow (v ∷ vs) = (v < 2 ^ 32) × Narrow vs
