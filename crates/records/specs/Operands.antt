-- The readings that make up a record's: a proposition's word and a pattern's row, by their form.
use Rattle.std.specs.Prelude.{ℕ, ◌+◌, List, length}
use Rattle.language.specs.Numbers.{Got, got, then, from, below}
use Rattle.forms.specs.Word.{word}
use Rattle.records.specs.Rows.{cell, pattern_cells}
use Rattle.records.specs.Reading.{name_ref, small_row}

-- an atom's word, a negation's, and that of a proposition of kind k over two
unfoldable pub atom_word : List ℕ → ℕ → Got ℕ
unfolding then from
atom_word s a = then (from 0 255 s a) (λ v. got (word 0 v 0))

unfoldable pub negation_word : List ℕ → List ℕ → ℕ → Got ℕ
unfolding then name_ref
negation_word s names a = then (name_ref s names a) (λ p. got (word 3 p 0))

unfoldable pub junction_word : List ℕ → List ℕ → ℕ → ℕ → Got ℕ
unfolding then name_ref
junction_word s names k a = then (name_ref s names a) (λ p b. then (name_ref s names b) (λ q. got (word k p q)))

-- the row of a pattern that is a proposition's, of a negation, and of one of kind k over two
unfoldable pub exactly_row : List ℕ → List ℕ → ℕ → ℕ → Got (List ℕ)
unfolding then name_ref small_row
exactly_row s names at a = then (name_ref s names a) (λ p. small_row at (pattern_cells 1 p 0 0 1))

unfoldable pub negation_row : List ℕ → List (List ℕ) → ℕ → ℕ → Got (List ℕ)
unfolding then below small_row
negation_row s rows at a =
    then (below (length rows) s a) (λ p. small_row at (pattern_cells 2 p 0 (cell rows p 3) (1 + cell rows p 4)))

unfoldable pub junction_row : List ℕ → List (List ℕ) → ℕ → ℕ → ℕ → Got (List ℕ)
unfolding then below small_row
junction_row s rows k at a =
    then (below (length rows) s a) (λ p b. then (below (length rows) s b) (λ q.
    small_row at (pattern_cells k p q (cell rows p 3 + cell rows q 3) (1 + (cell rows p 4 + cell rows q 4)))))
