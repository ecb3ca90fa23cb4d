-- A phrase's operands: what is an earlier phrase, operands read in a row and stored behind what the row has.
use Prim.Native.Nat.{ℕ, zero, suc, ◌+◌, ◌-◌, ◌*◌, ◌≤◌, ◌<◌, ◌^◌}
use mathlib.Core.Path.{◌≡◌, refl, sym, ap, ◌∙◌}
use mathlib.Core.Bool.{Bool, ◌||◌}
use mathlib.Core.List.{List, [], ◌∷◌, ◌++◌}
use native.Mathlib.Omega.{arith}
use native.Mathlib.Nat.{sub-zero, le_of_suc-le-suc}
use lib.ListN.{length, set, take, replicate, length-append}
use lib.Dec.{ltb, leb, eqb}
use lib.Seq.{sets, length-sets, length-take-le, append_snoc}
use Rattle.language.specs.Refusals.{wrong_reference}
use Rattle.language.specs.Numbers.{Got, got, no, then, check, from, below, times}
use Rattle.words.specs.Front.{front}
use Rattle.words.proofs.Fronts.{front_put}
use Rattle.words.proofs.Runs.{sets_sets, front_run}
use Rattle.numbers.proofs.Bounds.{not_got, then_got, check_got, below_got, from_got}
use Rattle.std.specs.Prelude.{Result, Ok, Err}
use Rattle.language.specs.Numbered.{number_of}
use Rattle.language.specs.declared.refusal.Refusal.{Refusal}
use Rattle.phrases.specs.declared.shape.Operand.{Operand}
use Rattle.phrases.specs.declared.shape.Operand.TheVariants as operand
use Rattle.records.specs.Rows.{cell, flat, phrase_cells}
use Rattle.records.specs.Reading.{row_ref, expr_row, dedu_row, several_row, clause_row, clauses_row}
use Rattle.phrases.specs.Shapes.{operand_at, abstraction_row, Begun}
use Rattle.records.specs.Answers.{filled, rows_in}
use Rattle.records.proofs.Tables.{rows_long, flat_snoc}

-- two ways to go on that agree on what was read
pub then_same : {A B : Type 0} (g : Got A) (f h : A → ℕ → Got B) → ((a : A) (m : ℕ) → g ≡ got a m → f a m ≡ h a m) → then g f ≡ then g h
unfolding then
then_same (got a m) f h e = e a m refl
then_same (no k q) f h e = refl

-- an operand fits a cell
module _ (s : List ℕ) (rows : List (List ℕ)) (few : length rows ≤ 512) (at v next : ℕ) where
  low : below (length rows) s at ≡ got v next → v < 2 ^ 32
  low e = let h = (below_got s at v next (length rows) e).low in omega arith

  ranged : (top : ℕ) → top ≤ 255 → from 0 top s at ≡ got v next → v < 2 ^ 32
  ranged top l e = let h = (from_got s at v next 0 top e).to_top in omega arith

  classed : (test : ℕ → Bool) (why : ℕ) → then (row_ref s rows at) (λ k m. check (test k) why at (got k m)) ≡ got v next → v < 2 ^ 32
  unfolding row_ref then
  classed test why e = go (below (length rows) s at) refl e
    where
      go : (g : Got ℕ) → below (length rows) s at ≡ g → then g (λ k m. check (test k) why at (got k m)) ≡ got v next → v < 2 ^ 32
      go (got k m) r f =
          let same : got k m ≡ got v next = (check_got (test k) why at (got k m) v next f).read in
          low (r ∙ same)
      go (no k q) r f = not_got k q v next f

  pub operand_narrow : (what : Operand) → operand_at s rows what at ≡ got v next → v < 2 ^ 32
  unfolding operand_at expr_row dedu_row abstraction_row row_ref
  operand_narrow operand.Variable e = ranged 255 (omega arith) e
  operand_narrow operand.Constructor e = ranged 4 (omega arith) e
  operand_narrow operand.Rule e = ranged 15 (omega arith) e
  operand_narrow operand.Parameters e = ranged 4 (omega arith) e
  operand_narrow operand.Phrase e = low e
  operand_narrow operand.Expression e = classed (λ k. ltb (cell rows k 0) 16) wrong_reference e
  operand_narrow operand.Deduction e = classed (λ k. leb 16 (cell rows k 0)) wrong_reference e
  operand_narrow operand.Abstraction e = classed (λ k. eqb (cell rows k 0) 4 || eqb (cell rows k 0) 5) wrong_reference e

pub operand_fits : (s t : List ℕ) (n : ℕ) → n ≤ 512 → (at v next : ℕ) (what : Operand) → operand_at s (rows_in 12 n t) what at ≡ got v next → v < 2 ^ 32
operand_fits s t n h at v next what e =
    let l = rows_long 12 n t in
    operand_narrow s (rows_in 12 n t) (omega arith) at v next what e

-- things read in a row, each of which is so many numbers of a row
pub record Run (A : Type 0) : Type 0 where
  pub read : ℕ → Got A
  pub numbers : List A → List ℕ
  pub one : A → List ℕ
  pub width : ℕ
  pub none : numbers [] ≡ []
  pub more : (xs : List A) (a : A) → numbers (xs ++ (a ∷ [])) ≡ numbers xs ++ one a
  pub wide : (p : ℕ) (a : A) (next : ℕ) → read p ≡ got a next → length (one a) ≡ width

abbrev pub operand_run : List ℕ → List (List ℕ) → Operand → Run ℕ
operand_run s rows what =
    record {
      read = operand_at s rows what;
      numbers = λ xs. xs;
      one = λ x. x ∷ [];
      width = 1;
      none = refl;
      more = λ xs a. refl;
      wide = λ p a next e. refl;
    }

pub flat_none : flat [] ≡ []
unfolding flat
flat_none = refl

pub clause_wide : (s : List ℕ) (nq : ℕ) (r : ℕ → Got ℕ) (p : ℕ) (a : List ℕ) (next : ℕ) → clause_row s nq r p ≡ got a next → length a ≡ 2
unfolding clause_row
clause_wide s nq r p a next e =
    let x = then_got (below nq s p) _ a next e in
    let y = then_got (r x.place) _ a next x.rest in
    let z : got (x.value ∷ (y.value ∷ [])) y.place ≡ got a next = y.rest in
    let w : x.value ∷ (y.value ∷ []) ≡ a = cc in
    ap length (sym w)

abbrev pub clause_run : List ℕ → ℕ → (ℕ → Got ℕ) → Run (List ℕ)
clause_run s nq r =
    record {
      read = clause_row s nq r;
      numbers = flat;
      one = λ c. c;
      width = 2;
      none = flat_none;
      more = flat_snoc;
      wide = clause_wide s nq r;
    }

module _ {A : Type 0} (X : Run A) where
  abbrev all : ℕ → List A → ℕ → Got (List A)
  all n done p = times n (λ acc. X.read) done p

  -- one step of reading
  module _ (n i : ℕ) (done : List A) (p : ℕ) where
    all_end : n ≤ i → all (n - i) done p ≡ got done p
    unfolding times
    all_end h = let z : n - i ≡ 0 = omega arith in rw z

    all_no : (why q : ℕ) → i < n → X.read p ≡ no why q → all (n - i) done p ≡ no why q
    unfolding times then
    all_no why q h e = let z : n - i ≡ suc (n - (i + 1)) = omega arith in rw (z, e)

    all_more : (a : A) (next : ℕ) → i < n → X.read p ≡ got a next → all (n - i) done p ≡ all (n - (i + 1)) (done ++ (a ∷ [])) next
    unfolding times then
    all_more a next h e = let z : n - i ≡ suc (n - (i + 1)) = omega arith in rw (z, e)

  -- so many numbers
  all_wide : (n : ℕ) (done : List A) (p : ℕ) (xs : List A) (next : ℕ) → all n done p ≡ got xs next → length (X.numbers xs) ≡ length (X.numbers done) + X.width * n
  unfolding times
  all_wide zero done p xs next e = let z : done ≡ xs = cc in rw z (omega arith)
  all_wide (suc n) done p xs next e =
      let x = then_got (X.read p) _ xs next e in
      let a = x.value in
      let w = X.wide p a x.place x.first in
      let h = all_wide n (done ++ (a ∷ [])) x.place xs next x.rest in
      let l : length (X.numbers (done ++ (a ∷ []))) ≡ length (X.numbers done) + length (X.one a) = ap length (X.more done a) ∙ length-append (X.numbers done) (X.one a) in
      h ∙ omega arith

  -- the first i are in the row
  pub record At (count at : ℕ) (row₀ : List ℕ) (from : ℕ) (row : List ℕ) (i p : ℕ) : Type 0 where
    pub done : List A
    pub within : i ≤ count
    pub same : all count [] at ≡ all (count - i) done p
    pub stored : row ≡ sets row₀ from (X.numbers done)
    pub long : length (X.numbers done) ≡ X.width * i
    pub keeps : length row ≡ length row₀

  module _ (count at : ℕ) (row₀ : List ℕ) (from : ℕ) where
    abbrev Answer : Got (List ℕ)
    Answer = then (all count [] at) (λ xs. got (sets row₀ from (X.numbers xs)))

    pub at_start : At count at row₀ from row₀ 0 at
    at_start = record { done = []; within = omega arith; same = rw sub-zero; stored = rw X.none; long = rw X.none (omega arith); keeps = refl }

    module _ (row : List ℕ) (i p : ℕ) (a : At count at row₀ from row i p) where
      pub at_end : count ≤ i → filled (Ok p) row ≡ Answer
      unfolding then
      at_end h = rw (a.same, all_end count i a.done p h) (ap (λ (t : List ℕ). got t p) a.stored)

      pub at_refused : (why q : ℕ) → i < count → X.read p ≡ no why q → no why q ≡ Answer
      unfolding then
      at_refused why q h e = rw (a.same, all_no count i a.done p why q h e) refl

      pub at_more : (x : A) (next : ℕ) (to : ℕ) (row' : List ℕ) → i < count → X.read p ≡ got x next → to ≡ from + X.width * i → row' ≡ sets row to (X.one x)
          → At count at row₀ from row' (i + 1) next
      at_more x next to row' h e t f =
          let l = a.long in
          let w = X.wide p x next e in
          let z : to ≡ from + length (X.numbers a.done) = omega arith in
          record {
            done = a.done ++ (x ∷ []);
            within = omega arith;
            same = a.same ∙ all_more count i a.done p x next h e;
            stored = f ∙ rw (a.stored, z, X.more) (sets_sets (X.numbers a.done) (X.one x) row₀ from);
            keeps = ap length f ∙ length-sets row to (X.one x) ∙ a.keeps;
            long = ap length (X.more a.done x) ∙ length-append (X.numbers a.done) (X.one x) ∙ omega arith;
          }

      -- the same of one that stores its numbers itself
      module _ (r : Result ℕ Refusal) (to : ℕ) (row' : List ℕ) (f : filled r row' ≡ then (X.read p) (λ x. got (sets row to (X.one x)))) where
        pub stored_refused : (x : Refusal) → i < count → r ≡ Err x → no (number_of x.0) x.1 ≡ Answer
        unfolding then
        stored_refused x h e =
            let g : no (number_of x.0) x.1 ≡ then (X.read p) (λ x. got (sets row to (X.one x))) = ap (λ (y : Result ℕ Refusal). filled y row') (sym e) ∙ f in
            at_refused (number_of x.0) x.1 h (go (number_of x.0) x.1 (X.read p) g)
          where
            go : (why q : ℕ) (y : Got A) → no why q ≡ then y (λ x. got (sets row to (X.one x))) → y ≡ no why q
            go why q (got x m) g = not_got why q (sets row to (X.one x)) m g
            go why q (no k z) g = let u : k ≡ why = cc in let v : z ≡ q = cc in rw (u, v)

        pub stored_more : (next : ℕ) → i < count → r ≡ Ok next → to ≡ from + X.width * i → At count at row₀ from row' (i + 1) next
        stored_more next h e t =
            let g : then (X.read p) (λ x. got (sets row to (X.one x))) ≡ got row' next = sym f ∙ ap (λ (y : Result ℕ Refusal). filled y row') e in
            let x = then_got (X.read p) _ row' next g in
            let same : got (sets row to (X.one x.value)) x.place ≡ got row' next = x.rest in
            let k : x.place ≡ next = cc in
            let m : row' ≡ sets row to (X.one x.value) = cc in
            at_more x.value next to row' h (x.first ∙ ap (λ (y : ℕ). got x.value y) k) t m

-- a phrase's row: what was read, and zeros to the end
zeros : (n m : ℕ) → n ≤ m → take n (replicate m 0) ≡ replicate {A = ℕ} n 0
zeros zero m h = refl
zeros (suc n) zero h = absurd (omega arith)
zeros (suc n) (suc m) h = ap {B = List ℕ} (λ l. 0 ∷ l) (zeros n m (le_of_suc-le-suc h))

padded : (xs : List ℕ) (n m : ℕ) → length xs ≤ n → n ≤ m → take n (xs ++ replicate m 0) ≡ front xs (replicate n 0)
padded [] n m h l = zeros n m l
padded (x ∷ xs) zero m h l = absurd (omega arith)
padded (x ∷ xs) (suc n) m h l = ap {B = List ℕ} (λ l. x ∷ l) (padded xs n m (le_of_suc-le-suc h) (omega arith))

pub cells_front : (xs : List ℕ) → length xs ≤ 12 → phrase_cells xs ≡ front xs (replicate 12 0)
unfolding phrase_cells
cells_front xs h = padded xs 12 12 h (omega arith)

-- a count, and that many operands behind it
pub counted : {A : Type 0} (X : Run A) (count b : ℕ) (row : List ℕ) (m : ℕ) → Begun m row → m + 1 + X.width * count ≤ 12
    → then (times count (λ acc. X.read) [] b) (λ xs. got (sets (set row m count) (m + 1) (X.numbers xs)))
    ≡ then (times count (λ acc. X.read) [] b) (λ xs. got (phrase_cells (take m row ++ (count ∷ X.numbers xs))))
counted {A} X count b row m B room = then_same (times count (λ acc. X.read) [] b) _ _ (λ xs next e. ap (λ (t : List ℕ). got t next) (laid xs next e))
  where
    laid : (xs : List A) (next : ℕ) → times count (λ acc. X.read) [] b ≡ got xs next → sets (set row m count) (m + 1) (X.numbers xs) ≡ phrase_cells (take m row ++ (count ∷ X.numbers xs))
    laid xs next e =
        let zs : List ℕ = replicate 12 0 in
        let F : List ℕ = take m row in
        let G : List ℕ = F ++ (count ∷ []) in
        let L = B.long in
        let n : length (X.numbers []) ≡ 0 = ap length X.none in
        let w : length (X.numbers xs) ≡ length (X.numbers []) + X.width * count = all_wide X count [] b xs next e in
        let l : length F ≡ m = length-take-le m row (omega arith) in
        let k : length G ≡ m + 1 = length-append F (count ∷ []) ∙ omega arith in
        let p : set row m count ≡ front G zs = front_put F zs row m count B.rest l (omega arith) in
        let q : sets (front G zs) (length G) (X.numbers xs) ≡ front (G ++ X.numbers xs) zs = front_run (X.numbers xs) G zs (omega arith) in
        let c : G ++ X.numbers xs ≡ F ++ (count ∷ X.numbers xs) = append_snoc F count (X.numbers xs) in
        let y : length (F ++ (count ∷ X.numbers xs)) ≤ 12 = rw length-append (omega arith) in
        rw (p, ← k, q, c) (sym (cells_front (F ++ (count ∷ X.numbers xs)) y))

-- a row that begins with one number, or with two
module _ (row row₁ : List ℕ) (k : ℕ) (blank : row ≡ replicate 12 0) (first : row₁ ≡ set row 0 k) where
  one_set : row₁ ≡ set (replicate 12 0) 0 k
  one_set = first ∙ ap (λ (t : List ℕ). set t 0 k) blank

  pub one_begun : Begun 1 row₁
  one_begun = rw one_set (record { long = refl; rest = refl })

  pub one_taken : take 1 row₁ ≡ k ∷ []
  one_taken = rw one_set refl

  module _ (row₂ : List ℕ) (x : ℕ) (second : row₂ ≡ set row₁ 1 x) where
    two_set : row₂ ≡ set (set (replicate 12 0) 0 k) 1 x
    two_set = second ∙ ap (λ (t : List ℕ). set t 1 x) one_set

    pub two_begun : Begun 2 row₂
    two_begun = rw two_set (record { long = refl; rest = refl })

    pub two_taken : take 2 row₂ ≡ k ∷ (x ∷ [])
    two_taken = rw two_set refl

-- a row read with its count
module _ (s : List ℕ) (rows : List (List ℕ)) (what : Operand) (row row₁ : List ℕ) (m at count next : ℕ) (g : Got (List ℕ)) (B : Begun m row) (put : row₁ ≡ set row m count) where
  pub several_read : (low top : ℕ) → m + top < 12 → from low top s at ≡ got count next
      → g ≡ then (times count (λ acc. operand_at s rows what) [] next) (λ xs. got (sets row₁ (m + 1) xs))
      → g ≡ several_row s low top (take m row) (operand_at s rows what) at
  unfolding several_row then
  several_read low top h e f =
      let l = (from_got s at count next low top e).to_top in
      let z = rw put at f in
      rw e (z ∙ counted (operand_run s rows what) count next row m B (omega arith))

  pub clauses_read : (nq : ℕ) → m ≤ 3 → from 1 4 s at ≡ got count next
      → g ≡ then (times count (λ acc. clause_row s nq (operand_at s rows what)) [] next) (λ cs. got (sets row₁ (m + 1) (flat cs)))
      → g ≡ clauses_row s nq (take m row) (operand_at s rows what) at
  unfolding clauses_row then
  clauses_read nq h e f =
      let l = (from_got s at count next 1 4 e).to_top in
      let z = rw put at f in
      rw e (z ∙ counted (clause_run s nq (operand_at s rows what)) count next row m B (omega arith))
