-- Rows in a buffer: what a cell of a row is there, the rows in front, and a row laid number by number.
use Prim.Native.Nat.{ℕ, zero, suc, ◌+◌, ◌*◌, ◌≤◌, ◌<◌}
use mathlib.Core.Path.{◌≡◌, refl, sym, ap, ◌∙◌}
use mathlib.Core.List.{List, [], ◌∷◌, ◌++◌, append_assoc, append-nil}
use native.Mathlib.Omega.{arith}
use native.Mathlib.Nat.{le_of_suc-le-suc}
use lib.ListN.{length, get_or, take, drop, length-append}
use borrow.Rule.Slice.PartMut.{put_mid}
use Rattle.std.specs.Prelude.{Result, Ok, Err}
use Rattle.std.proofs.lemmas.List.Edits.{sets-eq}
use lib.Seq.{sets, drop-drop, get_or-take, get_or-drop, take-append_seam, drop-append_seam}
use Rattle.language.specs.Numbers.{Got, got, no}
use Rattle.numbers.proofs.Bounds.{not_got}
use Rattle.records.specs.Rows.{cell, flat}
use Rattle.language.specs.Numbered.{number_of}
use Rattle.language.specs.declared.refusal.Refusal.{Refusal}
use Rattle.records.specs.Answers.{rows_in, filled, closed, laid, Put}

-- as many rows as are asked for
pub rows_long : (w n : ℕ) (t : List ℕ) → length (rows_in w n t) ≡ n
unfolding rows_in
rows_long w zero t = refl
rows_long w (suc n) t = ap suc (rows_long w n (drop w t))

-- a row's number, in the buffer
pub cell_at : (w n : ℕ) (t : List ℕ) (k j : ℕ) → k < n → j < w → cell (rows_in w n t) k j ≡ get_or t (w * k + j) 0
unfolding rows_in
cell_at w zero t k j h g = absurd (omega arith)
cell_at w (suc n) t zero j h g = let z : w * 0 + j ≡ j = omega arith in rw z (get_or-take w t j 0 g)
cell_at w (suc n) t (suc k) j h g =
    let z : w * suc k + j ≡ w + (w * k + j) = omega arith in
    rw z (cell_at w n (drop w t) k j (le_of_suc-le-suc h) g ∙ get_or-drop w t (w * k + j) 0)

-- every row has w numbers
abbrev pub Wide : ℕ → List (List ℕ) → Type 0
Wide w [] = Unit {0}
Wide w (row ∷ rows) = (length row ≡ w) × Wide w rows

pub wide_snoc : (w : ℕ) (rows : List (List ℕ)) (row : List ℕ) → Wide w rows → length row ≡ w → Wide w (rows ++ (row ∷ []))
wide_snoc w [] row a e = (e, tt)
wide_snoc w (x ∷ rows) row a e = (a.0, wide_snoc w rows row a.1 e)

pub cell_first : (w n : ℕ) (t : List ℕ) (k : ℕ) → k < n → 0 < w → cell (rows_in w n t) k 0 ≡ get_or t (w * k) 0
cell_first w n t k h g = let z : w * k + 0 ≡ w * k = omega arith in rw z at (cell_at w n t k 0 h g)

-- rows one after another
pub flat_snoc : (rows : List (List ℕ)) (row : List ℕ) → flat (rows ++ (row ∷ [])) ≡ flat rows ++ row
unfolding flat
flat_snoc [] row = append-nil row
flat_snoc (x ∷ rows) row = ap (λ (l : List ℕ). x ++ l) (flat_snoc rows row) ∙ sym (append_assoc x (flat rows) row)

pub flat_long : (w : ℕ) (rows : List (List ℕ)) → Wide w rows → length (flat rows) ≡ w * length rows
unfolding flat
flat_long w [] a = omega arith
flat_long w (x ∷ rows) a =
    let h = flat_long w rows a.1 in
    let e = a.0 in
    length-append x (flat rows) ∙ omega arith

-- the rows in front of a buffer are those that were laid
pub rows_flat : (w : ℕ) (rows : List (List ℕ)) (d : List ℕ) → Wide w rows → rows_in w (length rows) (flat rows ++ d) ≡ rows
unfolding rows_in flat
rows_flat w [] d a = refl
rows_flat w (x ∷ rows) d a =
    let e = a.0 in
    let t : take w (x ++ (flat rows ++ d)) ≡ x = rw (← e) (take-append_seam x (flat rows ++ d)) in
    let u : drop w (x ++ (flat rows ++ d)) ≡ flat rows ++ d = rw (← e) (drop-append_seam x (flat rows ++ d)) in
    rw (append_assoc x (flat rows) d, t, u, rows_flat w rows d a.1)

-- a row copied over a part of a table
pub copied : (t row : List ℕ) (from k : ℕ) → k ≡ length row → from + length row ≤ length t → put_mid from k t row ≡ sets t from row
copied t row from k e h = rw (sets-eq row t from h, e, drop-drop (length row) from t) (sym (append_assoc (take from t) row (drop (from + length row) t)))

-- a row that was read and laid, or a refusal that lays nothing
module _ (w : ℕ) (g : Got (List ℕ)) (r : Result ℕ Refusal) (row : List ℕ) (f : filled r row ≡ g) (at : ℕ) (t : List ℕ) where
  pub put_refused : (x : Refusal) → r ≡ Err x → Put w g (Err x) at t t
  unfolding closed laid
  put_refused x e =
      let h : g ≡ no (number_of x.0) x.1 = sym f ∙ ap (λ (y : Result ℕ Refusal). filled y row) e in
      rw h (record { wide = λ row' next z. not_got (number_of x.0) x.1 row' next z; ended = refl; table = refl })

  pub put_row : (t' : List ℕ) (next : ℕ) → length row ≡ w → r ≡ Ok next → t' ≡ sets t at row → Put w g (Ok next) at t t'
  unfolding closed laid
  put_row t' next l e k =
      let h : g ≡ got row next = sym f ∙ ap (λ (y : Result ℕ Refusal). filled y row) e in
      rw h (record { wide = λ row' m z. same row' m z ∙ l; ended = refl; table = k })
    where
      same : (row' : List ℕ) (m : ℕ) → got row next ≡ got row' m → length row' ≡ length row
      same row' m z = let q : row ≡ row' = cc in ap length (sym q)
