-- A listing repeats nothing, so it is no longer than a list, closed under parts, that has all that is named.
use Prim.Native.Nat.{ℕ, ◌+◌, ◌≤◌, ◌<◌}
use native.Mathlib.Omega.{arith}
use mathlib.Core.Path.{◌≡◌, refl}
use mathlib.Core.List.{List, [], ◌∷◌, ◌++◌}
use mathlib.Core.Bool.{Bool, true, false, ◌||◌}
use lib.ListN.{length, length-append}
use Rattle.language.specs.Form.{Form, member}
use Rattle.language.specs.Numbers.{pick}
use Rattle.language.specs.Run.{Derived}
use Rattle.language.specs.Certificate.{listing}
use Rattle.theorems.proofs.Members.{◌∈◌, ◌⊆◌, not_in_nil, cons_cases, in_last, snoc_cases, member_append}
use Rattle.theorems.proofs.Closed.{PartsIn, Closed}
use Rattle.theorems.proofs.Listing.{listing_ind}
use Rattle.theorems.proofs.Inside.{DerivedIn}

-- how many of L are not in m
unfoldable missing : List Form → List Form → ℕ
missing m [] = 0
missing m (q ∷ L) = pick (member q m) 0 1 + missing m L

module _ (m : List Form) (p : Form) where
  missing_head : (q : Form) → pick (member q (m ++ (p ∷ []))) 0 1 ≤ pick (member q m) 0 1
  unfolding pick
  missing_head q = rw (member_append q m (p ∷ [])) (by_tests (member q m) (member q (p ∷ [])))
    where
      by_tests : (t u : Bool) → pick (t || u) 0 1 ≤ pick t 0 1
      by_tests true u = omega arith
      by_tests false true = omega arith
      by_tests false false = omega arith

  missing_mono : (L : List Form) → missing (m ++ (p ∷ [])) L ≤ missing m L
  unfolding missing
  missing_mono [] = omega arith
  missing_mono (q ∷ L) = omega (arith, missing_head q, missing_mono L)

  -- one that was missing no longer is
  missing_less : (L : List Form) → p ∈ L → member p m ≡ false → missing (m ++ (p ∷ [])) L < missing m L
  unfolding missing member pick
  missing_less [] h new = absurd (not_in_nil p h)
  missing_less (q ∷ L) h new =
      cons_cases q L p h
      (λ e.
      let now : ◌≡◌ {A = ℕ} (pick (member q (m ++ (p ∷ []))) 0 1) 0 = rw (← e, in_last m p) in
      let before : ◌≡◌ {A = ℕ} (pick (member q m) 0 1) 1 = rw (← e, new) in
      omega (arith, missing_mono L))
      (λ w. omega (arith, missing_head q, missing_less L w new))

missing_none : (L : List Form) → missing [] L ≡ length L
unfolding missing member pick
missing_none [] = refl
missing_none (q ∷ L) = omega (arith, missing_none L)

-- a listing stays inside a list that is closed under parts and has all that is named; as it repeats nothing, it is no longer
pub listing_within : (d : Derived) (L : List Form) → Closed L → DerivedIn d L → (listing d ⊆ L) × (length (listing d) ≤ length L)
listing_within d L closed h =
    let r = listing_ind (λ p. p ∈ L) closed Inside grows d h.1 h.0 (λ q i. absurd (not_in_nil q i), omega (arith, missing_none L)) in
    (r.0, omega (arith, r.1))
  where
    Inside : List Form → Type 0
    Inside m = (m ⊆ L) × (length m + missing m L ≤ length L)

    grows : (m : List Form) (p : Form) → Inside m → p ∈ L → PartsIn m p → member p m ≡ false → Inside (m ++ (p ∷ []))
    grows m p h w parts new =
        (λ q i. snoc_cases m p q i (h.0 q) (λ e. rw e w), simp length-append (omega (arith, h.1, missing_less m p L w new)))
