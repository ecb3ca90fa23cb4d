-- Interning a word: its place among the words in use, appended where it is not there.
use Rattle.std.specs.Prelude.{ℕ, suc, ◌≡◌, Bool, true, false, List, [], ◌∷◌, ◌++◌, length, take, eqb, ltb}
use Rattle.words.specs.Front.{front}
use Rattle.forms.specs.declared.Formed.{Formed}

-- 0 where a test holds, else one more than k
unfoldable pub unless : Bool → ℕ → ℕ
unless true k = 0
unless false k = suc k

-- where w stands in a list; the list's length where it does not
unfoldable pub position : ℕ → List ℕ → ℕ
unfolding unless
position w [] = 0
position w (x ∷ xs) = unless (eqb x w) (position w xs)

-- the first list where a test holds, else the second
unfoldable pub choose : Bool → List ℕ → List ℕ → List ℕ
choose true xs ys = xs
choose false xs ys = ys

-- the words in use once w is among them
unfoldable pub having : ℕ → List ℕ → List ℕ
unfolding choose position
having w ws = choose (ltb (position w ws) (length ws)) ws (ws ++ (w ∷ []))

-- the words of an empty table: true and false
abbrev pub first : List ℕ
first = 1 ∷ (2 ∷ [])

-- what interning w after n words answers, and what it leaves
pub record Interned (w n : ℕ) (t₀ t : List ℕ) (r : Formed) : Type 0 where
  pub at : r.at ≡ position w (take n t₀)
  pub size : r.size ≡ length (having w (take n t₀))
  pub words : t ≡ front (having w (take n t₀)) t₀
