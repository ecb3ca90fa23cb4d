-- Laws of writing: one text after another is both in a row, and a number's digits one after another.
use Prim.Native.Nat.{ℕ, zero, suc, ◌+◌, ◌-◌, ◌/◌, ◌%◌, ◌≤◌, ◌<◌}
use native.Mathlib.Omega.{arith}
use native.Mathlib.Numerals.{add-one}
use mathlib.Core.Path.{◌≡◌, refl, sym, ap, ◌∙◌}
use mathlib.Core.List.{List, [], ◌∷◌, ◌++◌}
use lib.ListN.{length, set, length-set}
use lib.Seq.{sets}
use borrow.Author.Tests.{lt-ltb, le-ltb}
use Rattle.wording.specs.Page.{Page, page, stroke, write}
use Rattle.wording.specs.Text.{digits}

pub write_append : (xs ys : List ℕ) (p : Page) → write (xs ++ ys) p ≡ write ys (write xs p)
unfolding write
write_append [] ys p = refl
write_append (x ∷ xs) ys p = write_append xs ys (stroke x p)

-- one text, then another
pub both : (xs ys : List ℕ) (p q r : Page) → q ≡ write xs p → r ≡ write ys q → r ≡ write (xs ++ ys) p
both xs ys p q r e f = f ∙ ap (write ys) e ∙ sym (write_append xs ys p)

-- a character is a text
pub one : (c : ℕ) (p r : Page) → r ≡ stroke c p → r ≡ write (c ∷ []) p
unfolding write
one c p r e = e

-- a page with room takes a character, a full one does not
pub put_room : (t : List ℕ) (at c : ℕ) → at < length t → page (set t at c) (at + 1) ≡ stroke c (page t at)
unfolding stroke
put_room t at c h = rw (lt-ltb at (length t) h)

pub put_full : (t : List ℕ) (at c : ℕ) → length t ≤ at → page t at ≡ stroke c (page t at)
unfolding stroke
put_full t at c h = rw (le-ltb at (length t) h)

pub digits_none : (k n : ℕ) (p : Page) → k ≡ 0 → p ≡ write (digits k n) p
unfolding write digits
digits_none k n p e = rw e

pub digits_one : (k n c : ℕ) (p r : Page) → (k ≡ 0 → ⊥) → n < 10 → c ≡ n + 48 → r ≡ stroke c p → r ≡ write (digits k n) p
unfolding write digits
digits_one zero n c p r z h e f = absurd (z refl)
digits_one (suc k) n c p r z h e f = rw (lt-ltb n 10 h, ← e) f

pub digits_more : (k n c : ℕ) (p q r : Page) → (k ≡ 0 → ⊥) → 10 ≤ n → q ≡ write (digits (k - 1) (n / 10)) p → c ≡ n % 10 + 48 → r ≡ stroke c q → r ≡ write (digits k n) p
unfolding digits
digits_more zero n c p q r z h w e f = absurd (z refl)
digits_more (suc k) n c p q r z h w e f =
    let z' : suc k - 1 ≡ k = omega arith in
    let w' : q ≡ write (digits k (n / 10)) p = w ∙ ap (λ (j : ℕ). write (digits j (n / 10)) p) z' in
    rw (le-ltb n 10 h, ← e) (both (digits k (n / 10)) (c ∷ []) p q r w' (one c q r f))

-- where there is room for it, a text is written whole, and all else is as it was
pub write_room : (xs t : List ℕ) (n : ℕ) → n + length xs ≤ length t → write xs (page t n) ≡ page (sets t n xs) (n + length xs)
unfolding write
write_room [] t n h = let z : n ≡ n + 0 = omega arith in ap (page t) z
write_room (x ∷ xs) t n h =
    let l = length-set t n x in
    let z : n + 1 + length xs ≡ n + suc (length xs) = omega arith in
    ap (write xs) (sym (put_room t n x (omega arith)))
    ∙ write_room xs (set t n x) (n + 1) (omega arith)
    ∙ rw (z, add-one n)
