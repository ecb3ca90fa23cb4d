-- What reading a record answers and leaves, in the definition's words, and rows as a buffer has them.
use Rattle.std.specs.Prelude.{ℕ, ◌<◌, ◌^◌, ◌≡◌, List, [], ◌∷◌, length, get_or, take, drop, Result, Ok, Err, IfOk}
use Rattle.std.proofs.lemmas.List.Edits.{sets}
use Rattle.language.specs.Numbers.{Got, got, no}
use Rattle.language.specs.Numbered.{number_of}
use Rattle.language.specs.declared.refusal.Refusal.{Refusal}

-- where a reading ended: the next place, or a refusal
abbrev pub ends : Result ℕ Refusal → Got (Unit {0})
ends (Ok next) = got tt next
ends (Err r) = no (number_of r.0) r.1

-- a row that was read, or a refusal
abbrev pub filled : Result ℕ Refusal → List ℕ → Got (List ℕ)
filled (Ok next) row = got row next
filled (Err r) row = no (number_of r.0) r.1

-- a number that fits a cell
abbrev pub Narrow : Result (ℕ × ℕ) Refusal → Type 0
Narrow r = IfOk r (λ p. p.0 < 2 ^ 32)

-- the first n rows of a buffer, w numbers each
unfoldable pub rows_in : ℕ → ℕ → List ℕ → List (List ℕ)
rows_in w ℕ.zero t = []
rows_in w (ℕ.suc n) t = take w t ∷ rows_in w n (drop w t)

-- each of the names fits its bits of a word
pub record Names (names : List ℕ) : Type 0 where
  pub low : (j : ℕ) → get_or names j 0 < 16384

-- where the reading of a row ended
unfoldable pub closed : {A : Type 0} → Got A → Got (Unit {0})
closed (got a next) = got tt next
closed (no why place) = no why place

-- a table once a row that was read is laid at a place
unfoldable pub laid : Got (List ℕ) → ℕ → List ℕ → List ℕ
laid (got row next) at t = sets t at row
laid (no why place) at t = t

-- where a reading ended, with its row of w numbers laid
pub record Put (w : ℕ) (g : Got (List ℕ)) (r : Result ℕ Refusal) (at : ℕ) (t₀ t : List ℕ) : Type 0 where
  pub wide : (row : List ℕ) (next : ℕ) → g ≡ got row next → length row ≡ w
  pub ended : ends r ≡ closed g
  pub table : t ≡ laid g at t₀
