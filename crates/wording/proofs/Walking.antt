-- A list taken from place i on: its first item, then the list from the next place on; nothing past its end.
use Rattle.std.proofs.Common.{◌≡◌, ℕ, zero, suc, ◌+◌, ◌-◌, ◌<◌, ◌≤◌, List, [], ◌∷◌, ◌++◌, length, get_or, take, drop, map, refl, sym, ap, ◌∙◌, arith, add-one, eq-eqb, ne_eqb}
use lib.ListN.{drop_of_length-le}
use lib.Seq.{drop-cons, take-suc}
use mathlib.Core.List.{append-nil, append_assoc}
use Rattle.wording.specs.Page.{Page, stroke, write}
use Rattle.wording.specs.Text.{decimal, listed, past, up_to, after}
use Rattle.wording.specs.Templates.{part, filled}
use Rattle.wording.specs.Answers.{first_at}
use Rattle.wording.proofs.Writing.{write_append}

module _ (s : List ℕ) (i : ℕ) where
  pub write_more : (p : Page) → i < length s → write (drop i s) p ≡ write (drop (i + 1) s) (stroke (get_or s i 0) p)
  unfolding write
  write_more p h = rw (drop-cons s i 0 h, add-one i)

  pub write_past : (p : Page) → length s ≤ i → write (drop i s) p ≡ p
  unfolding write
  write_past p h = rw (drop_of_length-le s {i = i} h)

  pub filled_more : (facts : List ℕ) (p : Page) → i < length s →
      write (filled facts (drop i s)) p ≡ write (filled facts (drop (i + 1) s)) (write (part facts (get_or s i 0)) p)
  unfolding filled
  filled_more facts p h = rw (drop-cons s i 0 h, add-one i) (write_append (part facts (get_or s i 0)) (filled facts (drop (suc i) s)) p)

  pub filled_past : (facts : List ℕ) (p : Page) → length s ≤ i → write (filled facts (drop i s)) p ≡ p
  unfolding filled write
  filled_past facts p h = rw (drop_of_length-le s {i = i} h)

  -- the first place of a number
  pub found_here : (w : ℕ) → i < length s → get_or s i 0 ≡ w → first_at (drop i s) w ≡ 0
  unfolding first_at
  found_here w h e = rw (drop-cons s i 0 h, e, eq-eqb w w refl)

  pub found_later : (w : ℕ) → i < length s → (get_or s i 0 ≡ w → ⊥) → first_at (drop i s) w ≡ first_at (drop (i + 1) s) w + 1
  unfolding first_at
  found_later w h e = rw (drop-cons s i 0 h, ne_eqb (get_or s i 0) w e, add-one i, add-one)

  pub found_nowhere : (w : ℕ) → length s ≤ i → first_at (drop i s) w ≡ 0
  unfolding first_at
  found_nowhere w h = rw (drop_of_length-le s {i = i} h)

  -- what stands past some bars
  pub after_none : after 0 (drop i s) ≡ drop i s
  unfolding after
  after_none = refl

  pub after_bar : (k : ℕ) → 0 < k → i < length s → get_or s i 0 ≡ 124 → after k (drop i s) ≡ after (k - 1) (drop (i + 1) s)
  unfolding after past
  after_bar zero z h e = absurd (omega arith)
  after_bar (suc k) z h e = let k' : suc k - 1 ≡ k = omega arith in rw (k', drop-cons s i 0 h, e, add-one i)

  pub after_other : (k : ℕ) → 0 < k → i < length s → (get_or s i 0 ≡ 124 → ⊥) → after k (drop i s) ≡ after k (drop (i + 1) s)
  unfolding after past
  after_other zero z h e = absurd (omega arith)
  after_other (suc k) z h e = rw (drop-cons s i 0 h, ne_eqb (get_or s i 0) 124 e, add-one i)

  -- what stands before the first bar
  pub up_to_bar : up_to s ≡ take i s ++ up_to (drop i s) → i < length s → get_or s i 0 ≡ 124 → up_to s ≡ take i s
  unfolding up_to
  up_to_bar u h e = u ∙ rw (drop-cons s i 0 h, e) (append-nil (take i s))

  pub up_to_other : up_to s ≡ take i s ++ up_to (drop i s) → i < length s → (get_or s i 0 ≡ 124 → ⊥) → up_to s ≡ take (i + 1) s ++ up_to (drop (i + 1) s)
  unfolding up_to
  up_to_other u h e =
      u ∙ rw (drop-cons s i 0 h, ne_eqb (get_or s i 0) 124 e, add-one i, take-suc s i 0 h) (sym (append_assoc (take i s) (get_or s i 0 ∷ []) (up_to (drop (suc i) s))))

  pub up_to_all : up_to s ≡ take i s ++ up_to (drop i s) → length s ≤ i → up_to s ≡ take i s
  unfolding up_to
  up_to_all u h = u ∙ rw (drop_of_length-le s {i = i} h) (append-nil (take i s))

after_past : (k : ℕ) → after k [] ≡ []
unfolding after past
after_past zero = refl
after_past (suc k) = after_past k

pub after_end : (s : List ℕ) (i k : ℕ) → length s ≤ i → after k (drop i s) ≡ drop i s
after_end s i k h = rw (drop_of_length-le s {i = i} h) (after_past k)

-- numbers in decimal, each after a blank
pub listed_more : {X : Type 0} (f : X → ℕ) (xs : List X) (i : ℕ) (d : X) (p : Page) → i < length xs →
    write (listed (map f (drop i xs))) p ≡ write (listed (map f (drop (i + 1) xs))) (write (decimal (f (get_or xs i d))) (stroke 32 p))
unfolding listed write
listed_more f xs i d p h = rw (drop-cons xs i d h, add-one i) (write_append (decimal (f (get_or xs i d))) (listed (map f (drop (suc i) xs))) (stroke 32 p))

pub listed_past : {X : Type 0} (f : X → ℕ) (xs : List X) (i : ℕ) (p : Page) → length xs ≤ i → write (listed (map f (drop i xs))) p ≡ p
unfolding listed write
listed_past f xs i p h = rw (drop_of_length-le xs {i = i} h)

pub map_same : (xs : List ℕ) → map (λ x. x) xs ≡ xs
map_same [] = refl
map_same (x ∷ xs) = ap (λ (l : List ℕ). x ∷ l) (map_same xs)

pub ruleset copying = (write_more, write_past)

pub ruleset filling = (filled_more, filled_past)

pub ruleset finding = (found_here, found_later, found_nowhere)

pub ruleset skipping = (after_none, after_bar, after_other, after_end)

pub ruleset cutting = (up_to_bar, up_to_other, up_to_all)
