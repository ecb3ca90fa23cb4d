-- Every row that is read has its width, so that the rows of a sheet stand in the buffers at their places.
use Prim.Native.Nat.{ℕ, zero, suc, ◌+◌, ◌≤◌, ◌<◌}
use mathlib.Core.Path.{◌≡◌, refl, sym, ap, ◌∙◌}
use mathlib.Core.Bool.{◌&&◌}
use mathlib.Core.List.{List, [], ◌∷◌, ◌++◌}
use native.Mathlib.Omega.{arith}
use native.Mathlib.Decide.{dec_lt}
use lib.ListN.{length, get_or, take, drop, replicate, length-append, get_or-eq_default}
use lib.Dec.{leb}
use lib.Seq.{length-take-le}
use Rattle.language.specs.Refusals.{out_of_range}
use Rattle.language.specs.Numbers.{Got, got, then, number, from, below, times, record_at}
use Rattle.language.specs.Numbers as sheet
use Rattle.numbers.proofs.Bounds.{not_got, then_got, check_got}
use Rattle.forms.specs.Interned.{first}
use Rattle.records.specs.Rows.{cell, flat, pattern_cells, phrase_cells}
use Rattle.records.specs.Reading.{Kept, kept, keeping, Props, Tables, naming, name_ref, small_row, pattern_row_kinds, pattern_row, phrase_row, one_row, pair_row, several_row, clause_row, clauses_row, after_patterns, after_props, reading}
use Rattle.records.specs.Answers.{rows_in}
use Rattle.records.proofs.ByKind.{each_at}
use Rattle.records.proofs.Tables.{Wide, wide_snoc, rows_flat}
use Rattle.phrases.specs.declared.shape.Operand.TheVariants as operand
use Rattle.phrases.specs.declared.shape.Shape.{Shape}
use Rattle.phrases.specs.declared.shape.Shape.TheVariants as shape
use Rattle.phrases.specs.Shapes.{operand_at, shape_of, shaped_row}
use Rattle.phrases.proofs.PhraseKinds.{shaped}
use Rattle.std.specs.Prelude.{Result, Option, Some, None}
use Rattle.language.specs.declared.refusal.Refusal.{Refusal}
use Rattle.reader.specs.declared.Counts.{Counts}
use Rattle.reader.specs.Laid.{Laid}
use Rattle.reader.proofs.Stages.{onward_has, phrases_have}

-- a row that is read is the one that was made
same_length : (xs row : List ℕ) (m next : ℕ) → got xs m ≡ got row next → length row ≡ length xs
same_length xs row m next e = let z : xs ≡ row = cc in ap length (sym z)

small_width : (at k l r m n a : ℕ) (row : List ℕ) (next : ℕ) → small_row at (pattern_cells k l r m n) a ≡ got row next → length row ≡ 5
unfolding small_row
small_width at k l r m n a row next e =
    let p = check_got (leb m 4 && leb n 256) out_of_range at (got (pattern_cells k l r m n) a) row next e in
    same_length (pattern_cells k l r m n) row a next p.read

pub pattern_width : (s names : List ℕ) (rows : List (List ℕ)) (at : ℕ) (row : List ℕ) (next : ℕ) → pattern_row s names rows at ≡ got row next → length row ≡ 5
unfolding pattern_row record_at pattern_row_kinds
pattern_width s names rows at row next e =
    let x = then_got (number s at) _ row next e in
    go x.value x.place (dec_lt x.value 7) x.rest
  where
    d : ℕ → Got (List ℕ)
    d a = sheet.no out_of_range at

    two : (k a : ℕ) → then (below (length rows) s a) (λ p b. then (below (length rows) s b) (λ q. small_row at (pattern_cells k p q (cell rows p 3 + cell rows q 3) (1 + (cell rows p 4 + cell rows q 4))))) ≡ got row next → length row ≡ 5
    two k a f =
        let x = then_got (below (length rows) s a) _ row next f in
        let y = then_got (below (length rows) s x.place) _ row next x.rest in
        small_width at k x.value y.value (cell rows x.value 3 + cell rows y.value 3) (1 + (cell rows x.value 4 + cell rows y.value 4)) y.place row next y.rest

    go : (k a : ℕ) → Dec (k < 7) → get_or (pattern_row_kinds s names rows at) k d a ≡ got row next → length row ≡ 5
    go k a (yes h) f = each_at (λ k. get_or (pattern_row_kinds s names rows at) k d a ≡ got row next → length row ≡ 5) 0 7 (
      (λ f. small_width at 0 0 0 1 1 a row next f),
      (
        (λ f. let x = then_got (name_ref s names a) _ row next f in small_width at 1 x.value 0 0 1 x.place row next x.rest),
        (
          (λ f. let x = then_got (below (length rows) s a) _ row next f in small_width at 2 x.value 0 (cell rows x.value 3) (1 + cell rows x.value 4) x.place row next x.rest),
          (two 3 a, (two 4 a, (two 5 a, (two 6 a, tt)))),
        ),
      ),
    ) k (omega arith) h f
    go k a (no h) f =
        let l : 7 ≤ k = omega arith in
        not_got out_of_range at row next (ap (λ (r : ℕ → Got (List ℕ)). r a) (sym (get_or-eq_default (pattern_row_kinds s names rows at) d {n = k} l)) ∙ f)

cells_width : (xs row : List ℕ) (m next : ℕ) → got (phrase_cells xs) m ≡ got row next → length row ≡ 12
unfolding phrase_cells
cells_width xs row m next e =
    let ys : List ℕ = xs ++ replicate 12 0 in
    let l : length ys ≡ length xs + 12 = length-append xs (replicate 12 0) in
    same_length (take 12 ys) row m next e ∙ length-take-le 12 ys (omega arith)

pub phrase_width : (s names : List ℕ) (nq : ℕ) (rows : List (List ℕ)) (at : ℕ) (row : List ℕ) (next : ℕ) → phrase_row s names nq rows at ≡ got row next → length row ≡ 12
unfolding phrase_row record_at shaped_row one_row pair_row several_row clauses_row
phrase_width s names nq rows at row next e =
    let x = then_got (number s at) _ row next e in
    go x.value (shape_of x.value) x.place (sym (shaped s names nq rows at x.place x.value) ∙ x.rest)
  where
    go : (k : ℕ) (x : Option Shape) (a : ℕ) → shaped_row s names nq rows at k x a ≡ got row next → length row ≡ 12
    go k None a f = not_got out_of_range at row next f
    go k (Some shape.Name) a f =
        let x = then_got (name_ref s names a) _ row next f in
        cells_width (k ∷ (x.value ∷ [])) row x.place next x.rest
    go k (Some (shape.One o)) a f =
        let x = then_got (operand_at s rows o a) _ row next f in
        cells_width (k ∷ (x.value ∷ [])) row x.place next x.rest
    go k (Some (shape.Two o o')) a f =
        let x = then_got (operand_at s rows o a) _ row next f in
        let y = then_got (operand_at s rows o' x.place) _ row next x.rest in
        cells_width (k ∷ (x.value ∷ (y.value ∷ []))) row y.place next y.rest
    go k (Some (shape.Call o)) a f =
        let x = then_got (operand_at s rows operand.Expression a) _ row next f in
        let y = then_got (from 0 4 s x.place) _ row next x.rest in
        let z = then_got (times y.value (λ acc. operand_at s rows o) [] y.place) _ row next y.rest in
        cells_width (k ∷ (x.value ∷ (y.value ∷ z.value))) row z.place next z.rest
    go k (Some shape.Block) a f =
        let y = then_got (from 1 8 s a) _ row next f in
        let z = then_got (times y.value (λ acc. operand_at s rows operand.Deduction) [] y.place) _ row next y.rest in
        cells_width (k ∷ (y.value ∷ z.value)) row z.place next z.rest
    go k (Some (shape.Match o o')) a f =
        let x = then_got (operand_at s rows o a) _ row next f in
        let y = then_got (from 1 4 s x.place) _ row next x.rest in
        let z = then_got (times y.value (λ acc. clause_row s nq (operand_at s rows o')) [] y.place) _ row next y.rest in
        cells_width (k ∷ (x.value ∷ (y.value ∷ flat z.value))) row z.place next z.rest

-- rows read in a row
keeping_wide : (w : ℕ) (read : List (List ℕ) → ℕ → Got (List ℕ)) → ((rows : List (List ℕ)) (at : ℕ) (row : List ℕ) (next : ℕ) → read rows at ≡ got row next → length row ≡ w)
    → (n : ℕ) (done : List (List ℕ)) (at : ℕ) → Wide w done → Wide w (keeping read n done at).items
unfolding keeping kept
keeping_wide w read h zero done at a = a
keeping_wide w read h (suc n) done at a = go (read done at) refl (λ done' at' a'. keeping_wide w read h n done' at' a')
  where
    go : (g : Got (List ℕ)) → read done at ≡ g → ((done' : List (List ℕ)) (at' : ℕ) → Wide w done' → Wide w (keeping read n done' at').items) → Wide w (kept (keeping read n) done g).items
    go (got row next) e f = f (done ++ (row ∷ [])) next (wide_snoc w done row a (h done at row next e))
    go (sheet.no n p) e f = a

-- the rows of a sheet
pub record Widths (T : Tables) : Type 0 where
  pub patterns : Wide 5 T.patterns
  pub phrases : Wide 12 T.phrases

patterns_wide : (s : List ℕ) (T : Tables) (K : Kept (List ℕ)) → Wide 5 K.items → Widths (after_patterns s T K).tables
unfolding after_patterns
patterns_wide s T K k =
    let U : Tables = record { names = T.names; words = T.words; patterns = K.items; phrases = []; base = [] } in
    let u : Widths U = record { patterns = k; phrases = tt } in
    onward_has Widths U K.ended _ u (λ x a. onward_has Widths U (from 1 512 s a) _ u (λ nf b.
    phrases_have Widths s U (keeping (phrase_row s T.names (length K.items)) nf [] b) (λ bs. record {
      patterns = k;
      phrases = keeping_wide 12 (phrase_row s T.names (length K.items)) (phrase_width s T.names (length K.items)) nf [] b tt;
    })))

pub reading_wide : (s : List ℕ) → Widths (reading s).tables
unfolding reading after_props
reading_wide s =
    let none : Tables = record { names = []; words = first; patterns = []; phrases = []; base = [] } in
    onward_has Widths none (from 0 512 s 0) _ (record { patterns = tt; phrases = tt }) (λ np a. named (naming s np [] first a))
  where
    named : (P : Props) → Widths (after_props s P).tables
    named P =
        let T : Tables = record { names = P.names; words = P.words; patterns = []; phrases = []; base = [] } in
        let t : Widths T = record { patterns = tt; phrases = tt } in
        onward_has Widths T P.ended _ t (λ x a. onward_has Widths T (from 0 128 s a) _ t (λ nq b.
        patterns_wide s T (keeping (pattern_row s P.names) nq [] b) (keeping_wide 5 (pattern_row s P.names) (pattern_width s P.names) nq [] b tt)))

-- what `read_sheet` leaves in front of the buffers of patterns and phrases are the rows themselves
pub record Stand (s ps hs : List ℕ) : Type 0 where
  pub patterns : rows_in 5 (length (reading s).tables.patterns) ps ≡ (reading s).tables.patterns
  pub phrases : rows_in 12 (length (reading s).tables.phrases) hs ≡ (reading s).tables.phrases

pub rows_stand : (s : List ℕ) (r : Result Counts Refusal) (ns₀ fs₀ ps₀ hs₀ bs₀ ns fs ps hs bs : List ℕ) → Laid s r ns₀ fs₀ ps₀ hs₀ bs₀ ns fs ps hs bs → Stand s ps hs
rows_stand s r ns₀ fs₀ ps₀ hs₀ bs₀ ns fs ps hs bs L =
    let w = reading_wide s in
    let pats = (reading s).tables.patterns in
    let phs = (reading s).tables.phrases in
    record {
      patterns = ap (λ (t : List ℕ). rows_in 5 (length pats) t) L.patterns ∙ rows_flat 5 pats (drop (length (flat pats)) ps₀) w.patterns;
      phrases = ap (λ (t : List ℕ). rows_in 12 (length phs) t) L.phrases ∙ rows_flat 12 phs (drop (length (flat phs)) hs₀) w.phrases;
    }
