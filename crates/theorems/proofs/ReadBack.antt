-- A number that is written is read back, wherever it stands.
use Prim.Native.Nat.{ℕ, ◌+◌, ◌-◌, ◌*◌, ◌/◌, ◌%◌, ◌≤◌, ◌<◌}
use native.Mathlib.Omega.{arith}
use mathlib.Core.Path.{◌≡◌, refl, sym, ap, ◌∙◌}
use mathlib.Core.List.{List, [], ◌∷◌, ◌++◌, append_assoc, append-nil}
use mathlib.Core.Bool.{Bool, true, false, and-eq-true_iff}
use lib.ListN.{length, length-append}
use lib.Seq.{get_or-append-add, get_or-append_seam}
use lib.Dec.{ltb, leb}
use borrow.Author.Tests.{lt-ltb, le-ltb, le-leb, ltb-true, ltb-false}
use Rattle.language.specs.Refusals.{out_of_range, wrong_reference}
use Rattle.language.specs.Numbers.{got, check, pick, number, second, third, groups, from, below}
use Rattle.theorems.proofs.Reading.{got_then, got_check}

-- the bytes xs stand in s at the place `at`
pub record Has (s : List ℕ) (at : ℕ) (xs : List ℕ) : Type 0 where
  pub front : List ℕ
  pub back : List ℕ
  pub whole : s ≡ front ++ (xs ++ back)
  pub place : at ≡ length front

pub has_all : (s : List ℕ) → Has s 0 s
has_all s = record { front = []; back = []; whole = sym (append-nil s); place = refl }

pub has_left : {s : List ℕ} {at : ℕ} (xs ys : List ℕ) → Has s at (xs ++ ys) → Has s at xs
has_left xs ys h = record { front = h.front; back = ys ++ h.back; whole = h.whole ∙ simp append_assoc; place = h.place }

pub has_right : {s : List ℕ} {at : ℕ} (xs ys : List ℕ) → Has s at (xs ++ ys) → Has s (at + length xs) ys
has_right xs ys h =
    record { front = h.front ++ xs; back = h.back; whole = h.whole ∙ simp append_assoc; place = simp length-append (omega arith) }

-- the three forms of a number
module _ (xs ys : List ℕ) where
  pub number_1 : (a : ℕ) → a < 128 → number (xs ++ (a ∷ ys)) (length xs) ≡ got a (length xs + 1)
  unfolding number check pick
  number_1 a h =
      let l : length xs < length (xs ++ (a ∷ ys)) = simp length-append (omega arith) in
      simp (get_or-append_seam, lt-ltb _ _ l, lt-ltb _ _ h)

  pub number_2 : (a b : ℕ) → 128 ≤ a → 0 < b → b < 128 →
      number (xs ++ (a ∷ (b ∷ ys))) (length xs) ≡ got (a - 128 + 128 * b) (length xs + 2)
  unfolding number second check pick
  number_2 a b h g g' =
      let l : length xs < length (xs ++ (a ∷ (b ∷ ys))) = simp length-append (omega arith) in
      let m : length xs + 1 < length (xs ++ (a ∷ (b ∷ ys))) = simp length-append (omega arith) in
      simp (get_or-append_seam, get_or-append-add, lt-ltb _ _ l, le-ltb _ _ h, lt-ltb _ _ m, lt-ltb _ _ g', lt-ltb _ _ g)

  pub number_3 : (a b c : ℕ) → 128 ≤ a → 128 ≤ b → 0 < c → c < 128 → a - 128 + 128 * (b - 128) + 16384 * c ≤ 65535 →
      number (xs ++ (a ∷ (b ∷ (c ∷ ys)))) (length xs) ≡ got (a - 128 + 128 * (b - 128) + 16384 * c) (length xs + 3)
  unfolding number second third check pick
  number_3 a b c h g f f' t =
      let l : length xs < length (xs ++ (a ∷ (b ∷ (c ∷ ys)))) = simp length-append (omega arith) in
      let m : length xs + 1 < length (xs ++ (a ∷ (b ∷ (c ∷ ys)))) = simp length-append (omega arith) in
      let n : length xs + 2 < length (xs ++ (a ∷ (b ∷ (c ∷ ys)))) = simp length-append (omega arith) in
      simp (get_or-append_seam, get_or-append-add, lt-ltb _ _ l, le-ltb _ _ h, lt-ltb _ _ m, le-ltb _ _ g, lt-ltb _ _ n, lt-ltb _ _ f, lt-ltb _ _ f', le-leb _ _ t)

pub read_back : (xs ys : List ℕ) (v : ℕ) → v ≤ 65535 → number (xs ++ (groups v ++ ys)) (length xs) ≡ got v (length xs + length (groups v))
unfolding groups pick
read_back xs ys v h = by_size (ltb v 128) refl (ltb v 16384) refl
  where
    by_size : (a : Bool) → ltb v 128 ≡ a → (b : Bool) → ltb v 16384 ≡ b →
        number (xs ++ (groups v ++ ys)) (length xs) ≡ got v (length xs + length (groups v))
    by_size true p b q = rw p (number_1 xs ys v (ltb-true v 128 p))
    by_size false p true q =
        let l = ltb-false v 128 p in
        let m = ltb-true v 16384 q in
        let e : 128 + v % 128 - 128 + 128 * (v / 128) ≡ v = omega arith in
        rw (p, q) (number_2 xs ys (128 + v % 128) (v / 128) (omega arith) (omega arith) (omega arith) ∙ ap (λ (x : ℕ). got x (length xs + 2)) e)
    by_size false p false q =
        let l = ltb-false v 16384 q in
        let e : 128 + v % 128 - 128 + 128 * (128 + v / 128 % 128 - 128) + 16384 * (v / 16384) ≡ v = omega arith in
        rw (p, q) (number_3 xs ys (128 + v % 128) (128 + v / 128 % 128) (v / 16384) (omega arith) (omega arith) (omega arith) (omega arith) (omega arith)
        ∙ ap (λ (x : ℕ). got x (length xs + 3)) e)

-- the same, where the bytes are known to stand; a kind or a rule is one byte
module _ {s : List ℕ} {at : ℕ} where
  pub number_at : (v : ℕ) → v ≤ 65535 → Has s at (groups v) → number s at ≡ got v (at + length (groups v))
  number_at v h w = rw (w.whole, w.place) (read_back w.front w.back v h)

  pub byte_at : (v : ℕ) (xs : List ℕ) → v < 128 → Has s at (v ∷ xs) → number s at ≡ got v (at + 1)
  byte_at v xs h w = rw (w.whole, w.place) (number_1 w.front (xs ++ w.back) v h)

  pub after_byte : (v : ℕ) (xs : List ℕ) → Has s at (v ∷ xs) → Has s (at + 1) xs
  after_byte v xs w = has_right (v ∷ []) xs w

-- a number in its range
module _ (s : List ℕ) (at : ℕ) {v next : ℕ} where
  pub from_number : (low top : ℕ) → low ≤ v → v ≤ top → number s at ≡ got v next → from low top s at ≡ got v next
  unfolding from
  from_number low top h h' e = got_then _ e ∙ got_check out_of_range at _ ((and-eq-true_iff (leb low v) (leb v top)).1 (le-leb low v h, le-leb v top h'))

  pub below_number : (n : ℕ) → v < n → number s at ≡ got v next → below n s at ≡ got v next
  unfolding below
  below_number n h e = got_then _ e ∙ got_check wrong_reference at _ (lt-ltb v n h)
