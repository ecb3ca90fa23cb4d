-- A sheet's bytes read into numbers: the propositions as words of the table, patterns and phrases as rows, the base as table numbers.
-- What was read before a refusal is kept, so that every buffer is determined for every input.
use Rattle.std.specs.Prelude.{ℕ, ◌+◌, List, [], ◌∷◌, ◌++◌, ◌&&◌, ◌||◌, length, get_or, ltb, leb, eqb}
use Rattle.language.specs.Refusals.{out_of_range, wrong_reference, bytes_after}
use Rattle.language.specs.Numbers.{Got, got, no, then, check, from, below, times, record_at}
use Rattle.forms.specs.Word.{word}
use Rattle.forms.specs.Interned.{position, having, first}
use Rattle.records.specs.Rows.{cell, flat, pattern_cells, phrase_cells}

-- things read in a row, and where that ended: the next place, or a refusal
pub record Kept (A : Type 0) : Type 0 where
  pub items : List A
  pub ended : Got (Unit {0})

-- n things in a row, as `times` reads them
unfoldable pub kept : {A : Type 0} → (List A → ℕ → Kept A) → List A → Got A → Kept A
kept rest done (no n p) = record { items = done; ended = no n p }
kept rest done (got a next) = rest (done ++ (a ∷ [])) next

unfoldable pub keeping : {A : Type 0} → (List A → ℕ → Got A) → ℕ → List A → ℕ → Kept A
unfolding kept
keeping r ℕ.zero done at = record { items = done; ended = got tt at }
keeping r (ℕ.suc n) done at = kept (keeping r n) done (r done at)

-- an earlier proposition, as its number in the table
unfoldable pub name_ref : List ℕ → List ℕ → ℕ → Got ℕ
unfolding then below
name_ref s names at = then (below (length names) s at) (λ p. got (get_or names p 0))

-- part 1: a proposition's word, by its kind
unfoldable pub word_kinds : List ℕ → List ℕ → List (ℕ → Got ℕ)
unfolding then from name_ref
word_kinds s names =
    let two : ℕ → ℕ → Got ℕ = λ k a. then (name_ref s names a) (λ p b. then (name_ref s names b) (λ q. got (word k p q))) in
    (λ a. then (from 0 255 s a) (λ v. got (word 0 v 0)))
    ∷ (got (word 1 0 0) ∷ (got (word 2 0 0)
    ∷ ((λ a. then (name_ref s names a) (λ p. got (word 3 p 0)))
    ∷ (two 4 ∷ (two 5 ∷ (two 6 ∷ (two 7 ∷ [])))))))

unfoldable pub word_at : List ℕ → List ℕ → ℕ → Got ℕ
unfolding word_kinds record_at
word_at s names = record_at (word_kinds s names) s

-- the propositions' numbers, the words in use, and where that ended
pub record Props : Type 0 where
  pub names : List ℕ
  pub words : List ℕ
  pub ended : Got (Unit {0})

unfoldable pub named : (List ℕ → List ℕ → ℕ → Props) → List ℕ → List ℕ → Got ℕ → Props
unfolding position having
named rest names ws (no n p) = record { names = names; words = ws; ended = no n p }
named rest names ws (got w next) = rest (names ++ (position w ws ∷ [])) (having w ws) next

unfoldable pub naming : List ℕ → ℕ → List ℕ → List ℕ → ℕ → Props
unfolding named word_at
naming s ℕ.zero names ws at = record { names = names; words = ws; ended = got tt at }
naming s (ℕ.suc n) names ws at = named (naming s n) names ws (word_at s names at)

-- part 2: a pattern's row within both limits, else out of range at its record
unfoldable pub small_row : ℕ → List ℕ → ℕ → Got (List ℕ)
unfolding check
small_row at row next = check (leb (get_or row 3 0) 4 && leb (get_or row 4 0) 256) out_of_range at (got row next)

-- a pattern's row, by its kind
unfoldable pub pattern_row_kinds : List ℕ → List ℕ → List (List ℕ) → ℕ → List (ℕ → Got (List ℕ))
unfolding then below name_ref small_row
pattern_row_kinds s names rows at =
    let pattern : ℕ → Got ℕ = below (length rows) s in
    let two : ℕ → ℕ → Got (List ℕ) = λ k a. then (pattern a) (λ p b. then (pattern b) (λ q.
    small_row at (pattern_cells k p q (cell rows p 3 + cell rows q 3) (1 + (cell rows p 4 + cell rows q 4))))) in
    small_row at (pattern_cells 0 0 0 1 1)
    ∷ ((λ a. then (name_ref s names a) (λ p. small_row at (pattern_cells 1 p 0 0 1)))
    ∷ ((λ a. then (pattern a) (λ p. small_row at (pattern_cells 2 p 0 (cell rows p 3) (1 + cell rows p 4))))
    ∷ (two 3 ∷ (two 4 ∷ (two 5 ∷ (two 6 ∷ []))))))

unfoldable pub pattern_row : List ℕ → List ℕ → List (List ℕ) → ℕ → Got (List ℕ)
unfolding pattern_row_kinds record_at
pattern_row s names rows at = record_at (pattern_row_kinds s names rows at) s at

-- part 3: an earlier phrase, of either class, an expression, a deduction
unfoldable pub row_ref : List ℕ → List (List ℕ) → ℕ → Got ℕ
unfolding below
row_ref s rows at = below (length rows) s at

unfoldable pub expr_row : List ℕ → List (List ℕ) → ℕ → Got ℕ
unfolding then check row_ref
expr_row s rows at = then (row_ref s rows at) (λ k next. check (ltb (cell rows k 0) 16) wrong_reference at (got k next))

unfoldable pub dedu_row : List ℕ → List (List ℕ) → ℕ → Got ℕ
unfolding then check row_ref
dedu_row s rows at = then (row_ref s rows at) (λ k next. check (leb 16 (cell rows k 0)) wrong_reference at (got k next))

-- a fix over a row of kind 4 or 5
unfoldable pub fixed_row : List ℕ → List (List ℕ) → ℕ → Got (List ℕ)
unfolding then check row_ref phrase_cells
fixed_row s rows at =
    then (row_ref s rows at) (λ k next.
    check (eqb (cell rows k 0) 4 || eqb (cell rows k 0) 5) wrong_reference at (got (phrase_cells (8 ∷ (k ∷ []))) next))

-- one operand, two operands
unfoldable pub one_row : ℕ → (ℕ → Got ℕ) → ℕ → Got (List ℕ)
unfolding then phrase_cells
one_row k r a = then (r a) (λ x. got (phrase_cells (k ∷ (x ∷ []))))

unfoldable pub pair_row : ℕ → (ℕ → Got ℕ) → (ℕ → Got ℕ) → ℕ → Got (List ℕ)
unfolding then phrase_cells
pair_row k r r' a = then (r a) (λ x b. then (r' b) (λ y. got (phrase_cells (k ∷ (x ∷ (y ∷ []))))))

-- a count from low to top and that many operands, after what the row has before them
unfoldable pub several_row : List ℕ → ℕ → ℕ → List ℕ → (ℕ → Got ℕ) → ℕ → Got (List ℕ)
unfolding then from times phrase_cells
several_row s low top front r a =
    then (from low top s a) (λ n b. then (times n (λ acc. r) [] b) (λ xs. got (phrase_cells (front ++ (n ∷ xs)))))

-- a count of clauses and the clauses, a pattern's number and a phrase's each
unfoldable pub clause_row : List ℕ → ℕ → (ℕ → Got ℕ) → ℕ → Got (List ℕ)
unfolding then below
clause_row s nq r a = then (below nq s a) (λ q b. then (r b) (λ k. got (q ∷ (k ∷ []))))

unfoldable pub clauses_row : List ℕ → ℕ → List ℕ → (ℕ → Got ℕ) → ℕ → Got (List ℕ)
unfolding then from times clause_row phrase_cells flat
clauses_row s nq front r a =
    then (from 1 4 s a) (λ n b. then (times n (λ acc. clause_row s nq r) [] b) (λ cs. got (phrase_cells (front ++ (n ∷ flat cs)))))

-- a phrase's row, by its kind
unfoldable pub phrase_row_kinds : List ℕ → List ℕ → ℕ → List (List ℕ) → ℕ → List (ℕ → Got (List ℕ))
unfolding then from name_ref row_ref expr_row dedu_row fixed_row one_row pair_row several_row clauses_row
phrase_row_kinds s names nq rows at =
    let E = expr_row s rows in
    let D = dedu_row s rows in
    let F = row_ref s rows in
    let out : ℕ → Got (List ℕ) = λ a. no out_of_range at in
    one_row 0 (name_ref s names)
    ∷ (one_row 1 (from 0 255 s)
    ∷ (one_row 2 (from 0 4 s)
    ∷ (one_row 3 (from 0 15 s)
    ∷ (pair_row 4 (from 0 4 s) E
    ∷ (pair_row 5 (from 0 4 s) D
    ∷ ((λ a. then (E a) (λ e. several_row s 0 4 (6 ∷ (e ∷ [])) E))
    ∷ (pair_row 7 E E
    ∷ (fixed_row s rows
    ∷ ((λ a. then (E a) (λ e. clauses_row s nq (9 ∷ (e ∷ [])) E))
    ∷ (out ∷ (out ∷ (out ∷ (out ∷ (out ∷ (out
    ∷ ((λ a. then (E a) (λ e. several_row s 0 4 (16 ∷ (e ∷ [])) F))
    ∷ (pair_row 17 E D
    ∷ (pair_row 18 E D
    ∷ (pair_row 19 F D
    ∷ (pair_row 20 E D
    ∷ (several_row s 1 8 (21 ∷ []) D
    ∷ ((λ a. then (F a) (λ f. clauses_row s nq (22 ∷ (f ∷ [])) D))
    ∷ []))))))))))))))))))))))

unfoldable pub phrase_row : List ℕ → List ℕ → ℕ → List (List ℕ) → ℕ → Got (List ℕ)
unfolding phrase_row_kinds record_at
phrase_row s names nq rows at = record_at (phrase_row_kinds s names nq rows at) s at

-- all that is read of a sheet: propositions as table numbers, the words in use, rows of patterns and phrases, the base as table numbers
pub record Tables : Type 0 where
  pub names : List ℕ
  pub words : List ℕ
  pub patterns : List (List ℕ)
  pub phrases : List (List ℕ)
  pub base : List ℕ

-- with the root, or a refusal
pub record Reading : Type 0 where
  pub tables : Tables
  pub root : Got ℕ

-- what follows a reading, unless it is refused
unfoldable pub onward : {A : Type 0} → Tables → Got A → (A → ℕ → Reading) → Reading
onward T (no n p) f = record { tables = T; root = no n p }
onward T (got a at) f = f a at

-- the root, a deduction, at which the bytes end
unfoldable pub root_at : List ℕ → List (List ℕ) → ℕ → Got ℕ
unfolding then check dedu_row
root_at s rows at = then (dedu_row s rows at) (λ r end. check (eqb end (length s)) bytes_after end (got r end))

unfoldable pub after_base : List ℕ → Tables → Kept ℕ → Reading
unfolding onward root_at
after_base s T B =
    let U : Tables = record { names = T.names; words = T.words; patterns = T.patterns; phrases = T.phrases; base = B.items } in
    onward U B.ended (λ x at. record { tables = U; root = root_at s T.phrases at })

-- part 4
unfoldable pub after_phrases : List ℕ → Tables → Kept (List ℕ) → Reading
unfolding onward after_base keeping name_ref from
after_phrases s T F =
    let U : Tables = record { names = T.names; words = T.words; patterns = T.patterns; phrases = F.items; base = [] } in
    onward U F.ended (λ x a. onward U (from 0 64 s a) (λ nb b. after_base s U (keeping (λ acc. name_ref s T.names) nb [] b)))

-- part 3
unfoldable pub after_patterns : List ℕ → Tables → Kept (List ℕ) → Reading
unfolding onward after_phrases keeping phrase_row from
after_patterns s T Q =
    let U : Tables = record { names = T.names; words = T.words; patterns = Q.items; phrases = []; base = [] } in
    onward U Q.ended (λ x a. onward U (from 1 512 s a) (λ nf b. after_phrases s U (keeping (phrase_row s T.names (length Q.items)) nf [] b)))

-- part 2
unfoldable pub after_props : List ℕ → Props → Reading
unfolding onward after_patterns keeping pattern_row from
after_props s P =
    let T : Tables = record { names = P.names; words = P.words; patterns = []; phrases = []; base = [] } in
    onward T P.ended (λ x a. onward T (from 0 128 s a) (λ nq b. after_patterns s T (keeping (pattern_row s P.names) nq [] b)))

-- the table at its start, with true and false
abbrev pub untouched : Tables
untouched = record { names = []; words = first; patterns = []; phrases = []; base = [] }

-- a sheet's bytes
unfoldable pub reading : List ℕ → Reading
unfolding onward after_props naming from
reading s = onward untouched (from 0 512 s 0) (λ np a. after_props s (naming s np [] first a))
