-- Readings one after another, and several of one kind in a row.
use Prim.Native.Nat.{ℕ, suc, ◌+◌}
use native.Mathlib.Nat.{zero-add}
use native.Mathlib.Omega.{arith}
use mathlib.Core.Path.{◌≡◌, refl, sym, ◌∙◌}
use mathlib.Core.List.{List, [], ◌∷◌, ◌++◌, append_assoc, append-nil}
use Rattle.language.specs.Numbers.{Got, got, no, then, times}
use Rattle.theorems.proofs.Lists.{clash}
use Rattle.theorems.proofs.Reading.{got_then}

-- readings one after another
module _ {A B : Type 0} where
  pub then_is : {f h : A → ℕ → Got B} (g : Got A) → ((a : A) (at : ℕ) → f a at ≡ h a at) → then g f ≡ then g h
  unfolding then
  then_is (got a at) e = e a at
  then_is (no n p) e = refl

  pub then_then : {C : Type 0} (f : A → ℕ → Got B) (h : B → ℕ → Got C) (g : Got A) → then (then g f) h ≡ then g (λ a at. then (f a at) h)
  unfolding then
  then_then f h (got a at) = refl
  then_then f h (no n p) = refl

  -- what gave something went through both
  pub through : {f : A → ℕ → Got B} {b : B} {end : ℕ} (g : Got A) → then g f ≡ got b end → (a : A) × (at : ℕ) × (g ≡ got a at) × (f a at ≡ got b end)
  unfolding then
  through (got a at) e = (a, at, refl, e)
  through (no n p) e = absurd (clash (cc))

-- more of the same in a row: first some, then the others, which are appended
module _ {A : Type 0} (r : List A → ℕ → Got A) where
  times_split : (n m : ℕ) (acc : List A) (at : ℕ) → times (n + m) r acc at ≡ then (times n r acc at) (times m r)
  unfolding times then
  times_split ℕ.zero m acc at = rw (zero-add m)
  times_split (ℕ.suc n) m acc at =
      let z : suc n + m ≡ suc (n + m) = omega arith in
      rw z (then_is (r acc at) (λ a next. times_split n m (acc ++ (a ∷ [])) next) ∙ sym (then_then (λ a next. times n r (acc ++ (a ∷ [])) next) (times m r) (r acc at)))

  times_appends : (n : ℕ) (acc : List A) (at : ℕ) {xs : List A} {end : ℕ} → times n r acc at ≡ got xs end → (more : List A) × (xs ≡ acc ++ more)
  unfolding times
  times_appends ℕ.zero acc at {xs} e = let z : acc ≡ xs = cc in ([], sym (append-nil acc ∙ z))
  times_appends (ℕ.suc n) acc at e =
      let (a, next, _, h) = through (r acc at) e in
      let (more, z) = times_appends n (acc ++ (a ∷ [])) next h in
      (a ∷ more, z ∙ append_assoc acc (a ∷ []) more)

  pub times_grow : (n m at : ℕ) {count mid end : ℕ} {xs ys : List A} → count ≡ n + m → times n r [] at ≡ got xs mid → times count r [] at ≡ got ys end →
      (more : List A) × (ys ≡ xs ++ more)
  times_grow n m at {mid} {xs} c first all =
      let rest = sym (got_then (times m r) first) ∙ sym (times_split n m [] at) ∙ (rw c at all) in
      times_appends m xs mid rest
