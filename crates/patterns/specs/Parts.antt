-- What a pattern binds: up to four propositions by their numbers, left to right.
use Rattle.std.specs.Prelude.{ℕ, ◌+◌, List, [], ◌∷◌, take, slice_set}
use Rattle.patterns.specs.declared.Parts.{Parts}

-- the numbers as a list
abbrev pub numbers : Parts → List ℕ
numbers b = take b.count b.all

abbrev pub none_bound : Parts
none_bound = record { count = 0; all = 0 ∷ 0 ∷ 0 ∷ 0 ∷ [] }

-- one more
abbrev pub with : Parts → ℕ → Parts
with b p = record { count = b.count + 1; all = slice_set b.all b.count p }

-- several more, left to right
unfoldable pub extend : Parts → List ℕ → Parts
extend b [] = b
extend b (p ∷ ps) = extend (with b p) ps
