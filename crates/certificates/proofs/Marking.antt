-- The listing in its buffer, grown by one proposition: its parts are listed, then it is entered in the next place.
use Prim.Native.Nat.{ℕ, zero, suc, ◌+◌, ◌≤◌, ◌<◌}
use mathlib.Core.Path.{◌≡◌, refl, sym, ap, ◌∙◌}
use mathlib.Core.Bool.{false}
use mathlib.Core.List.{List, [], ◌∷◌, ◌++◌}
use native.Mathlib.Omega.{arith}
use native.Mathlib.Numerals.{add-one}
use native.Mathlib.Decide.{ℕ_discrete, dec_lt}
use lib.ListN.{length, get_or, set, take, length-set, length-append, get_or-append}
use lib.Dec.{eqb}
use lib.Seq.{length-take-le, get_or-take, get_or-set_same, get_or-set_other, take-set-le, take-set-lt, get_or-append_seam}
use borrow.Author.Tests.{eq-eqb, ne_eqb}
use Rattle.language.specs.Form.{Form, verum, same, member}
use Rattle.language.specs.Certificate.{listed}
use Rattle.forms.specs.Word.{code, kind, left, right}
use Rattle.forms.specs.Table.{tree, Row}
use Rattle.forms.proofs.Trees.{same_at}
use Rattle.bindings.specs.Stands.{Is}
use Rattle.certificates.specs.Marks.{mark, zeros, Ready, Listable, Lists}
use Rattle.certificates.proofs.Growing.{behind, listed_old, listed_new, behind_fresh, mark_some, mark_none, mark_zero, mark_new, mark_kept, behind_none, first_low, second_low, behind_one, behind_two}

-- a zero that is overwritten is one zero less
zeros_set : (xs : List ℕ) (i v : ℕ) → i < length xs → get_or xs i 0 ≡ 0 → suc (zeros (set xs i (suc v))) ≡ zeros xs
unfolding zeros
zeros_set [] i v h e = absurd (omega arith)
zeros_set (zero ∷ xs) zero v h e = refl
zeros_set (suc x ∷ xs) zero v h e = absurd (omega (arith, e))
zeros_set (zero ∷ xs) (suc i) v h e = ap suc (zeros_set xs i v (omega arith) e)
zeros_set (suc x ∷ xs) (suc i) v h e = zeros_set xs i v (omega arith) e

-- one proposition of the table: where its mark is not 0 it is listed; where it is not listed it is entered in the next place, for which there is room
module _ (forms : List ℕ) (n : ℕ) (fs l : List Form) (t : List ℕ) (k : ℕ) (R : Ready forms n fs l t k) where
  pub words_long : length (take n forms) ≡ n
  words_long = sym R.table.count ∙ R.size

  pub few : n ≤ 16384
  few = omega (arith, words_long, R.table.small)

  module _ (p : ℕ) (low : p < n) where
    abbrev P : Form
    P = tree fs p

    pub old_ready : 0 < get_or t p 0 → Ready forms n fs (listed P l) t k
    old_ready h =
        let m = R.marked.marks p low in
        rw (listed_old P l (mark_some P l (omega arith))) R

    pub unlisted : get_or t p 0 ≤ 0 → member P l ≡ false
    unlisted h = let m = R.marked.marks p low in mark_none P l (omega arith)

    module _ (new : member P l ≡ false) where
      mark_at : get_or t p 0 ≡ 0
      mark_at = R.marked.marks p low ∙ mark_zero P l new

      one_less : suc (zeros (set (take n t) p (suc k))) ≡ zeros (take n t)
      one_less =
          let r = R.room in
          zeros_set (take n t) p k (omega (arith, length-take-le n t (omega arith))) (get_or-take n t p 0 low ∙ mark_at)

      pub next_low : k < n
      next_low = omega (arith, one_less, R.marked.rest, R.count)

      abbrev t' : List ℕ
      t' = set (set t p (k + 1)) (n + k) p

      long : length (set t p (k + 1)) ≡ length t
      long = length-set t p (k + 1)

      marks' : (j : ℕ) → j < n → get_or t' j 0 ≡ mark (tree fs j) (l ++ (P ∷ []))
      marks' j h =
          get_or-set_other (set t p (k + 1)) (n + k) j p 0 (λ e. omega (arith, e))
          ∙ go (ℕ_discrete j p)
        where
          alike : same (tree fs j) P ≡ eqb j p
          alike = same_at (take n forms) fs R.table j p (omega (arith, words_long)) (omega (arith, words_long))

          go : Dec (j ≡ p) → get_or (set t p (k + 1)) j 0 ≡ mark (tree fs j) (l ++ (P ∷ []))
          go (yes e) =
              rw e (get_or-set_same t p (k + 1) 0 (omega (arith, R.room))
              ∙ sym (mark_new P P l new (same_at (take n forms) fs R.table p p (omega (arith, words_long)) (omega (arith, words_long)) ∙ eq-eqb p p refl)
              ∙ ap (λ (m : ℕ). m + 1) R.count))
          go (no e) =
              get_or-set_other t p j (k + 1) 0 e
              ∙ R.marked.marks j h
              ∙ sym (mark_kept (tree fs j) P l (alike ∙ ne_eqb j p e))

      order' : (i : ℕ) → i < length (l ++ (P ∷ [])) → Is fs (get_or t' (n + i) 0) (get_or (l ++ (P ∷ [])) i verum)
      order' i h = go (dec_lt i (length l))
        where
          low' : p < length fs
          low' = omega (arith, R.size)

          go : Dec (i < length l) → Is fs (get_or t' (n + i) 0) (get_or (l ++ (P ∷ [])) i verum)
          go (yes g) =
              rw (get_or-set_other (set t p (k + 1)) (n + k) (n + i) p 0 (λ e. omega (arith, e, R.count)), get_or-set_other t p (n + i) (k + 1) 0 (λ e. omega (arith, e)), get_or-append l (P ∷ []) verum i g) (R.marked.order i g)
          go (no g) =
              let z : i ≡ length l = omega (arith, g, length-append l (P ∷ [])) in
              let y : n + i ≡ n + k = omega (arith, R.count) in
              rw (y, z, get_or-set_same (set t p (k + 1)) (n + k) p 0 (omega (arith, long, R.room, next_low)), get_or-append_seam l P [] verum) (record { low = low'; tree = refl })

      rest' : length (l ++ (P ∷ [])) + zeros (take n t') ≡ n
      rest' =
          let e : take n t' ≡ set (take n t) p (suc k) =
          take-set-le n (set t p (k + 1)) (n + k) p (omega arith)
          ∙ take-set-lt n t p (k + 1) low
          ∙ ap (λ (v : ℕ). set (take n t) p v) (add-one k) in
          rw (e, length-append l (P ∷ [])) (omega (arith, one_less, R.marked.rest))

      pub entered : Ready forms n fs (l ++ (P ∷ [])) t' (k + 1)
      entered = record {
        table = R.table;
        size = R.size;
        marked = record { marks = marks'; order = order'; rest = rest' };
        room = omega (arith, R.room, length-set (set t p (k + 1)) (n + k) p, long);
        count = length-append l (P ∷ []) ∙ omega (arith, R.count);
      }

-- `Open`: the parts of p are listed and p is not; it is to be entered
pub record Open (forms : List ℕ) (n p k : ℕ) (t t₁ : List ℕ) (k₁ : ℕ) : Type 0 where
  pub opens : (x : Listable forms n p t k) →
      (member (tree x.trees p) x.before ≡ false) × Ready forms n x.trees (behind (tree x.trees p) x.before) t₁ k₁

-- what a return of `list` gives, one law for each
module _ (forms : List ℕ) (n p k : ℕ) (t : List ℕ) where
  pub old_lists : (v : ℕ) → v ≡ get_or t p 0 → 0 < v → Lists forms n p k t t k
  old_lists v e h = record { meets = λ x. old_ready forms n x.trees x.before t k x.ready p x.low (omega arith) }

  module _ (t₁ : List ℕ) (k₁ : ℕ) (O : Open forms n p k t t₁ k₁) where
    fresh : (x : Listable forms n p t k) → member (tree x.trees p) (behind (tree x.trees p) x.before) ≡ false
    fresh x = behind_fresh (tree x.trees p) x.before (O.opens x).0

    pub open_enter : Listable forms n p t k → (k₁ < n) × (n ≤ 16384) × (p < n)
    open_enter x =
        let R = (O.opens x).1 in
        (next_low forms n x.trees _ t₁ k₁ R p x.low (fresh x), few forms n x.trees _ t₁ k₁ R, x.low)

    pub open_lists : (t₂ : List ℕ) (r : ℕ) → (r ≡ k₁ + 1) × (t₂ ≡ set (set t₁ p (k₁ + 1)) (n + k₁) p) → Lists forms n p k t t₂ r
    open_lists t₂ r e = record {
      meets = λ x.
          rw (e.0, e.1, listed_new (tree x.trees p) x.before (O.opens x).0) (entered forms n x.trees _ t₁ k₁ (O.opens x).1 p x.low (fresh x));
    }

  -- a proposition that is not listed, and its word
  module _ (v : ℕ) (jv : v ≡ get_or t p 0) (zero-mark : v ≤ 0) (w : ℕ) (jw : w ≡ get_or forms p 0) (q : ℕ) (jq : q ≡ kind w) where
    module _ (x : Listable forms n p t k) where
      new_at : member (tree x.trees p) x.before ≡ false
      new_at = unlisted forms n x.trees x.before t k x.ready p x.low (omega arith)

      inside : p < length (take n forms)
      inside = omega (arith, words_long forms n x.trees x.before t k x.ready, x.low)

      row : Row (take n forms) x.trees p
      row = x.ready.table.rows p inside

      says : w ≡ code row.says
      says = jw ∙ sym (get_or-take n forms p 0 x.low) ∙ row.word

      small : p ≤ 16384
      small = omega (arith, few forms n x.trees x.before t k x.ready, x.low)

      kind_is : q ≡ kind (code row.says)
      kind_is = jq ∙ ap kind says

    pub open_plain : q < 3 → Open forms n p k t t k
    open_plain h = record {
      opens = λ x.
          (new_at x, rw ((row x).tree, behind_none x.trees p (small x) (row x).says (omega (arith, kind_is x, h)) x.before) x.ready);
    }

    module _ (h : 3 ≤ q) (a : ℕ) (ja : a ≡ left w) where
      first_is : (x : Listable forms n p t k) → a ≡ left (code (row x).says)
      first_is x = ja ∙ ap left (says x)

      pub first_below : Listable forms n p t k → a < p
      first_below x = rw (first_is x) (first_low x.trees p (small x) (row x).says (row x).below (omega (arith, kind_is x)))

      abbrev pub first_listable : Listable forms n p t k → Listable forms n a t k
      first_listable x = record { trees = x.trees; before = x.before; ready = x.ready; low = omega (arith, first_below x, x.low) }

      module _ (t₁ : List ℕ) (k₁ : ℕ) (F : Lists forms n a k t t₁ k₁) where
        pub open_one : q ≡ 3 → Open forms n p k t t₁ k₁
        open_one e = record {
          opens = λ x.
              let r : behind (tree x.trees p) x.before ≡ listed (tree x.trees a) x.before =
              ap (λ (f : Form). behind f x.before) (row x).tree
              ∙ behind_one x.trees p (small x) (row x).says (row x).below (sym (kind_is x) ∙ e) x.before
              ∙ ap (λ (i : ℕ). listed (tree x.trees i) x.before) (sym (first_is x)) in
              (new_at x, rw r (F.meets (first_listable x)));
        }

        module _ (two : 4 ≤ q) (b : ℕ) (jb : b ≡ right w) where
          second_is : (x : Listable forms n p t k) → b ≡ right (code (row x).says)
          second_is x = jb ∙ ap right (says x)

          pub second_below : Listable forms n p t k → b < p
          second_below x =
              rw (second_is x) (second_low x.trees p (small x) (row x).says (row x).below (omega (arith, kind_is x)) (λ e. omega (arith, kind_is x, e, two)))

          abbrev pub second_listable : Listable forms n p t k → Listable forms n b t₁ k₁
          second_listable x = record {
            trees = x.trees;
            before = listed (tree x.trees a) x.before;
            ready = F.meets (first_listable x);
            low = omega (arith, second_below x, x.low);
          }

          pub open_two : (t₂ : List ℕ) (k₂ : ℕ) → Lists forms n b k₁ t₁ t₂ k₂ → Open forms n p k t t₂ k₂
          open_two t₂ k₂ G = record {
            opens = λ x.
                let r : behind (tree x.trees p) x.before ≡ listed (tree x.trees b) (listed (tree x.trees a) x.before) =
                ap (λ (f : Form). behind f x.before) (row x).tree
                ∙ behind_two x.trees p (small x) (row x).says (row x).below (omega (arith, kind_is x)) (λ e. omega (arith, kind_is x, e, two)) x.before
                ∙ ap (λ (i : ℕ). listed (tree x.trees i) (listed (tree x.trees (left (code (row x).says))) x.before)) (sym (second_is x))
                ∙ ap (λ (i : ℕ). listed (tree x.trees b) (listed (tree x.trees i) x.before)) (sym (first_is x)) in
                (new_at x, rw r (G.meets (second_listable x)));
          }
