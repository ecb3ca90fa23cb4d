-- What is shown around a place is shown from a front that reaches ten bytes past it: what stands behind that front changes no text.
use Prim.Native.Nat.{ℕ, zero, suc, ◌+◌, ◌-◌, ◌≤◌, ◌<◌}
use native.Mathlib.Omega.{arith}
use mathlib.Core.Path.{◌≡◌, refl, ap}
use mathlib.Core.List.{List, [], ◌∷◌}
use mathlib.Core.Bool.{Bool, true, false}
use lib.ListN.{length, take, drop}
use lib.Seq.{take_all, take-take, take-nil, get_or-take, length-take-le}
use lib.Dec.{ltb}
use borrow.Author.Tests.{lt-ltb, ltb-true, ltb-false}
use Rattle.wording.specs.Answers.{here_text, around_text, sheet_text, certificate_text, fails_text, falls_text}

-- a part that lies in the front
within : (s : List ℕ) (n j k : ℕ) → j + k ≤ n → take k (drop j (take n s)) ≡ take k (drop j s)
within s n zero k h = take-take k n s (omega arith)
within [] n (suc j) k h = ap (λ (l : List ℕ). take k (drop (suc j) l)) (take-nil n)
within (x ∷ s) zero (suc j) k h = absurd (omega arith)
within (x ∷ s) (suc n) (suc j) k h = within s n j k (omega arith)

module _ (s : List ℕ) (n place : ℕ) (h : place + 10 ≤ n) where
  longer : n < length s → around_text (take n s) place ≡ around_text s place
  unfolding around_text here_text
  longer l =
      let e : length (take n s) ≡ n = length-take-le n s (omega arith) in
      rw (
        e,
        lt-ltb place n (omega arith),
        lt-ltb place (length s) (omega arith),
        lt-ltb 9 (n - place) (omega arith),
        lt-ltb 9 (length s - place) (omega arith),
        within s n (place - 8) (place - (place - 8)) (omega arith),
        within s n (place + 1) 8 (omega arith),
        get_or-take n s place 0 (omega arith),
      )

  pub around_front : around_text (take n s) place ≡ around_text s place
  around_front = go (ltb n (length s)) refl
    where
      go : (b : Bool) → ltb n (length s) ≡ b → around_text (take n s) place ≡ around_text s place
      go true e = longer (ltb-true n (length s) e)
      go false e = ap (λ (t : List ℕ). around_text t place) (take_all n s (ltb-false n (length s) e))

  -- a refusal of a sheet's bytes, of a certificate's
  pub fails_front : (number : ℕ) → fails_text (take n s) number place ≡ fails_text s number place
  unfolding fails_text sheet_text
  fails_front number = rw around_front

  pub falls_front : (sheet : List ℕ) (number : ℕ) → falls_text sheet (take n s) number place ≡ falls_text sheet s number place
  unfolding falls_text certificate_text
  falls_front sheet number = rw around_front
