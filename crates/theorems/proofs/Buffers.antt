-- Buffers of fixed lengths: long enough, lent by their fronts, and wiped.
use Prim.Native.Nat.{ℕ, zero, suc, ◌≤◌, ◌<◌}
use native.Mathlib.Omega.{arith}
use mathlib.Core.Path.{◌≡◌, refl, sym, ap, ap₂, ◌∙◌}
use mathlib.Core.List.{List, [], ◌∷◌, ◌++◌, map}
use mathlib.Core.Bool.{Bool, true, false, and-eq-true_iff}
use lib.ListN.{length, get_or, take, drop, replicate}
use lib.Seq.{drop-append_seam, length_front, length-take-le}
use lib.Dec.{leb}
use borrow.Author.Tests.{le-leb, leb-true}
use Rattle.language.specs.Doors.{enough, wiped}
use Rattle.theorems.proofs.Lists.{clash}

-- each buffer of enough scratch is as long as fixed
pub enough_at : (ns : List ℕ) (bs : List (List ℕ)) → enough ns bs ≡ true → (i : ℕ) → i < length ns → get_or ns i 0 ≤ length (get_or bs i [])
unfolding enough
enough_at [] bs e i l = absurd (omega arith)
enough_at (n ∷ ns) [] e i l = absurd (clash cc)
enough_at (n ∷ ns) (b ∷ bs) e zero l = leb-true n (length b) ((and-eq-true_iff (leb n (length b)) (enough ns bs)).0 e).0
enough_at (n ∷ ns) (b ∷ bs) e (suc i) l = enough_at ns bs ((and-eq-true_iff (leb n (length b)) (enough ns bs)).0 e).1 i (omega arith)

-- one short buffer is not enough
pub short_at : (ns : List ℕ) (bs : List (List ℕ)) (i : ℕ) → i < length ns → length (get_or bs i []) < get_or ns i 0 → enough ns bs ≡ false
short_at ns bs i l h = by_answer (enough ns bs) refl
  where
    by_answer : (x : Bool) → enough ns bs ≡ x → x ≡ false
    by_answer false e = refl
    by_answer true e = absurd (let k = enough_at ns bs e i l in omega arith)

-- enough, one buffer after another
pub enough_none : enough [] [] ≡ true
unfolding enough
enough_none = refl

pub enough_more : (n : ℕ) (ns b : List ℕ) (bs : List (List ℕ)) → n ≤ length b → enough ns bs ≡ true → enough (n ∷ ns) (b ∷ bs) ≡ true
unfolding enough
enough_more n ns b bs h e = (and-eq-true_iff (leb n (length b)) (enough ns bs)).1 (le-leb n (length b) h, e)

-- the fronts of buffers, of the fixed lengths; and the buffers once other numbers are in their fronts
unfoldable pub fronts : List ℕ → List (List ℕ) → List (List ℕ)
fronts [] bs = []
fronts (n ∷ ns) [] = []
fronts (n ∷ ns) (b ∷ bs) = take n b ∷ fronts ns bs

unfoldable pub over : List ℕ → List (List ℕ) → List (List ℕ) → List (List ℕ)
over [] xs bs = []
over (n ∷ ns) [] bs = []
over (n ∷ ns) (x ∷ xs) [] = []
over (n ∷ ns) (x ∷ xs) (b ∷ bs) = (x ++ drop n b) ∷ over ns xs bs

-- a buffer whose front was lent is as long as before, and the same past it
module _ (n : ℕ) (x b : List ℕ) (l : length x ≡ n) where
  over_long : n ≤ length b → length (x ++ drop n b) ≡ length b
  over_long h = length_front b x n (l ∙ sym (length-take-le n b h))

  drop_over : drop n (x ++ drop n b) ≡ drop n b
  drop_over = rw (← l) (drop-append_seam x (drop (length x) b))

-- of lists that are equal, the first and the rest are
module _ {x y : ℕ} {xs ys : List ℕ} (e : x ∷ xs ≡ y ∷ ys) where
  first : x ≡ y
  first = ap (λ (l : List ℕ). get_or l 0 0) e

  rest : xs ≡ ys
  rest = ap (λ (l : List ℕ). drop 1 l) e

pub fronts_long : (ns : List ℕ) (bs : List (List ℕ)) → enough ns bs ≡ true → map length (fronts ns bs) ≡ ns
unfolding enough fronts
fronts_long [] bs e = refl
fronts_long (n ∷ ns) [] e = absurd (clash cc)
fronts_long (n ∷ ns) (b ∷ bs) e =
    let both = (and-eq-true_iff (leb n (length b)) (enough ns bs)).0 e in
    ap₂ (λ (m : ℕ) (l : List ℕ). m ∷ l) (length-take-le n b (leb-true n (length b) both.0)) (fronts_long ns bs both.1)

-- buffers are as long as others, one after another
pub long_more : {x y : ℕ} {xs ys : List ℕ} → x ≡ y → xs ≡ ys → x ∷ xs ≡ y ∷ ys
long_more = ap₂ (λ (m : ℕ) (l : List ℕ). m ∷ l)

pub over_enough : (ns : List ℕ) (xs bs : List (List ℕ)) → map length xs ≡ ns → enough ns bs ≡ true → enough ns (over ns xs bs) ≡ true
unfolding enough over
over_enough [] xs bs m e = refl
over_enough (n ∷ ns) [] bs m e = absurd (clash cc)
over_enough (n ∷ ns) (x ∷ xs) [] m e = absurd (clash cc)
over_enough (n ∷ ns) (x ∷ xs) (b ∷ bs) m e =
    let both = (and-eq-true_iff (leb n (length b)) (enough ns bs)).0 e in
    let l = leb-true n (length b) both.0 in
    (and-eq-true_iff (leb n (length (x ++ drop n b))) (enough ns (over ns xs bs))).1
    (rw (over_long n x b (first m) l) both.0, over_enough ns xs bs (rest m) both.1)

pub over_wiped : (ns : List ℕ) (xs bs : List (List ℕ)) → map length xs ≡ ns → enough ns bs ≡ true → length bs ≡ length ns → wiped ns (over ns xs bs) ≡ wiped ns bs
unfolding enough over wiped
over_wiped [] xs [] m e k = refl
over_wiped [] xs (b ∷ bs) m e k = absurd (omega arith)
over_wiped (n ∷ ns) [] bs m e k = absurd (clash cc)
over_wiped (n ∷ ns) (x ∷ xs) [] m e k = absurd (clash cc)
over_wiped (n ∷ ns) (x ∷ xs) (b ∷ bs) m e k =
    let both = (and-eq-true_iff (leb n (length b)) (enough ns bs)).0 e in
    ap₂ (λ (u : List ℕ) (v : List (List ℕ)). (replicate n 0 ++ u) ∷ v) (drop_over n x b (first m)) (over_wiped ns xs bs (rest m) both.1 (omega arith))

-- wiped, one buffer after another
pub wiped_none : [] ≡ wiped [] []
unfolding wiped
wiped_none = refl

pub wiped_more : (n : ℕ) (ns x b : List ℕ) (xs bs : List (List ℕ)) → x ≡ replicate n 0 ++ drop n b → xs ≡ wiped ns bs → x ∷ xs ≡ wiped (n ∷ ns) (b ∷ bs)
unfolding wiped
wiped_more n ns x b xs bs e f = ap₂ (λ (u : List ℕ) (v : List (List ℕ)). u ∷ v) e f
