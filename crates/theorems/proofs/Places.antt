-- Where bytes stand in a sheet: runs that follow one another, and that a place and a length determine a run.
use Prim.Native.Nat.{ℕ, ◌+◌, ◌≤◌}
use native.Mathlib.Omega.{arith}
use mathlib.Core.Path.{◌≡◌, refl, sym, ap, ◌∙◌}
use mathlib.Core.List.{List, [], ◌∷◌, ◌++◌, append_assoc}
use lib.ListN.{length, length-append}
use Rattle.theorems.proofs.ReadBack.{Has}

-- fronts of one length that begin one list are one front
pub same_front : {A : Type 0} (a c : List A) {b d : List A} → length a ≡ length c → a ++ b ≡ c ++ d → (a ≡ c) × (b ≡ d)
same_front [] [] l e = (refl, e)
same_front [] (y ∷ c) l e = absurd (omega arith)
same_front (x ∷ a) [] l e = absurd (omega arith)
same_front (x ∷ a) (y ∷ c) {b} {d} l e =
    let heads : x ≡ y = cc in
    let tails : a ++ b ≡ c ++ d = cc in
    let (p, q) = same_front a c (omega arith) tails in
    (cc, q)

module _ {s : List ℕ} {at : ℕ} where
  pub has_within : (xs : List ℕ) → Has s at xs → at + length xs ≤ length s
  has_within xs h = rw (h.whole, length-append, length-append, h.place) (omega arith)

  -- what follows a run, joined to it
  pub has_join : {mid : ℕ} (xs ys : List ℕ) → Has s at xs → mid ≡ at + length xs → Has s mid ys → Has s at (xs ++ ys)
  has_join xs ys h m g =
      let e : (h.front ++ xs) ++ h.back ≡ g.front ++ (ys ++ g.back) = append_assoc h.front xs h.back ∙ sym h.whole ∙ g.whole in
      let l : length (h.front ++ xs) ≡ length g.front = simp length-append (omega (arith, h.place, g.place, m)) in
      let (_, q) = same_front (h.front ++ xs) g.front l e in
      record { front = h.front; back = g.back; whole = h.whole ∙ rw q (ap (λ z. h.front ++ z) (sym (append_assoc xs ys g.back))); place = h.place }

  -- a place and a length determine a run
  pub has_same : (xs ys : List ℕ) → length xs ≡ length ys → Has s at xs → Has s at ys → xs ≡ ys
  has_same xs ys l h g =
      let (_, q) = same_front h.front g.front (sym h.place ∙ g.place) (sym h.whole ∙ g.whole) in
      (same_front xs ys l q).0
