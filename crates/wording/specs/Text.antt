-- Texts as characters; numbers in decimal; pieces of a text that is cut at bars.
use Rattle.std.specs.Prelude.{ℕ, zero, suc, ◌+◌, ◌/◌, ◌%◌, List, [], ◌∷◌, ◌++◌, ltb, eqb}
use Prim.Native.Char.{code}
use Prim.Native.String.{String, [] as none, ◌∷◌ as ◌then◌}
use Rattle.wording.specs.Page.{pick}

-- a text's characters
unfoldable pub text : String → List ℕ
text none = []
text (c then s) = code c ∷ text s

-- the last k digits of a number, with no zeros before its first digit
unfoldable pub digits : ℕ → ℕ → List ℕ
digits zero n = []
digits (suc k) n = pick (ltb n 10) ((n + 48) ∷ []) (digits k (n / 10) ++ ((n % 10 + 48) ∷ []))

-- a number of at most 64 bits in decimal
unfoldable pub decimal : ℕ → List ℕ
unfolding digits
decimal n = digits 20 n

-- numbers in decimal, each after a blank
unfoldable pub listed : List ℕ → List ℕ
unfolding decimal
listed [] = []
listed (n ∷ ns) = 32 ∷ (decimal n ++ listed ns)

-- what stands past the first bar
unfoldable pub past : List ℕ → List ℕ
past [] = []
past (c ∷ cs) = pick (eqb c 124) cs (past cs)

-- what stands before the first bar
unfoldable pub up_to : List ℕ → List ℕ
up_to [] = []
up_to (c ∷ cs) = pick (eqb c 124) [] (c ∷ up_to cs)

-- what stands past k bars
unfoldable pub after : ℕ → List ℕ → List ℕ
unfolding past
after zero cs = cs
after (suc k) cs = after k (past cs)

-- piece k of a text cut at bars, counted from 0
unfoldable pub piece : ℕ → List ℕ → List ℕ
unfolding up_to after
piece k cs = up_to (after k cs)
