-- What a reading ensures of what it gives, composed as readings are.
use Prim.Native.Nat.{ℕ, ◌+◌, ◌≤◌, ◌<◌}
use native.Mathlib.Omega.{arith}
use mathlib.Core.Path.{◌≡◌, refl, ◌∙◌}
use mathlib.Core.List.{List, [], ◌∷◌, ◌++◌}
use mathlib.Core.Bool.{Bool, true, false, ◌&&◌, and-eq-true_iff}
use lib.ListN.{length, get_or, length-append}
use lib.Dec.{ltb, leb}
use borrow.Author.Tests.{ltb-true, leb-true}
use Rattle.language.specs.Refusals.{out_of_range, wrong_reference}
use Rattle.language.specs.Numbers.{Got, got, no, then, check, pick, number, from, below, times, record_at}
use Rattle.theorems.proofs.Lists.{clash}

pub got_is : {A : Type 0} {a b : A} {x y : ℕ} → a ≡ b → x ≡ y → got a x ≡ got b y
got_is p q = cc

-- the value and the next place that g gives, if it gives any, have G
pub data Ensures {A : Type 0} (G : A → ℕ → Type 0) : Got A → Type 0 where
  given : {a : A} {at : ℕ} → G a at → Ensures G (got a at)
  refused : {n p : ℕ} → Ensures G (no n p)

module _ {A : Type 0} {G : A → ℕ → Type 0} where
  pub ensured : {g : Got A} {a : A} {at : ℕ} → Ensures G g → g ≡ got a at → G a at
  ensured {a = a} {at = at} (given {a = b} {at = bt} h) e =
      let p : b ≡ a = cc in
      let q : bt ≡ at = cc in
      rw (← p, ← q) h
  ensured refused e = absurd (clash (cc))

  pub ensure : (g : Got A) → ((a : A) (at : ℕ) → g ≡ got a at → G a at) → Ensures G g
  ensure (got a at) h = given (h a at refl)
  ensure (no n p) h = refused

  pub ensures_map : {H : A → ℕ → Type 0} {g : Got A} → Ensures G g → ((a : A) (at : ℕ) → G a at → H a at) → Ensures H g
  ensures_map (given {a = a} {at = at} h) k = given (k a at h)
  ensures_map refused k = refused

  pub ensures_check : (t : Bool) (n p : ℕ) {g : Got A} → (t ≡ true → Ensures G g) → Ensures G (check t n p g)
  unfolding check
  ensures_check true n p h = h refl
  ensures_check false n p h = refused

  pub ensures_pick : (t : Bool) {g h : Got A} → (t ≡ true → Ensures G g) → (t ≡ false → Ensures G h) → Ensures G (pick t g h)
  unfolding pick
  ensures_pick true k m = k refl
  ensures_pick false k m = m refl

module _ {A B : Type 0} {H : B → ℕ → Type 0} where
  pub ensures_then : {G : A → ℕ → Type 0} {g : Got A} {f : A → ℕ → Got B} →
      Ensures G g → ((a : A) (at : ℕ) → G a at → Ensures H (f a at)) → Ensures H (then g f)
  unfolding then
  ensures_then (given {a = a} {at = at} h) k = k a at h
  ensures_then refused k = refused

  -- whatever the first part gives
  pub whatever : (g : Got A) {f : A → ℕ → Got B} → ((a : A) (at : ℕ) → Ensures H (f a at)) → Ensures H (then g f)
  unfolding then
  whatever (got a at) k = k a at
  whatever (no n p) k = refused

-- where a part is known
pub got_check : {A : Type 0} {t : Bool} (n p : ℕ) (g : Got A) → t ≡ true → check t n p g ≡ g
unfolding check
got_check n p g e = rw e

pub got_then : {A B : Type 0} {g : Got A} (f : A → ℕ → Got B) {a : A} {at : ℕ} → g ≡ got a at → then g f ≡ f a at
unfolding then
got_then f e = rw e

-- numbers in range
pub ensures_from : (low top : ℕ) (s : List ℕ) (at : ℕ) → Ensures (λ v next. (low ≤ v) × (v ≤ top)) (from low top s at)
unfolding from
ensures_from low top s at =
    whatever (number s at) λ v next. ensures_check (leb low v && leb v top) out_of_range at λ t.
    let b = (and-eq-true_iff (leb low v) (leb v top)).0 t in
    given (leb-true low v b.0, leb-true v top b.1)

pub ensures_below : (n : ℕ) (s : List ℕ) (at : ℕ) → Ensures (λ v next. v < n) (below n s at)
unfolding below
ensures_below n s at = whatever (number s at) λ v next. ensures_check (ltb v n) wrong_reference at λ t. given (ltb-true v n t)

-- several in a row: what each keeps, all keep
module _ {A : Type 0} (P : List A → Type 0) (r : List A → ℕ → Got A)
    (one : (acc : List A) (at : ℕ) → P acc → Ensures (λ a next. P (acc ++ (a ∷ []))) (r acc at)) where
  pub ensures_times : (n : ℕ) (acc : List A) (at : ℕ) → P acc → Ensures (λ xs next. P xs × (length xs ≡ length acc + n)) (times n r acc at)
  unfolding times
  ensures_times ℕ.zero acc at h = given (h, omega arith)
  ensures_times (ℕ.suc n) acc at h =
      ensures_then (one acc at h) λ a next k.
      ensures_map (ensures_times n (acc ++ (a ∷ [])) next k) λ xs end w.
      (w.0, w.1 ∙ simp length-append (omega arith))

-- one of several readers
module _ {A : Type 0} (G : A → ℕ → Type 0) where
  abbrev pub AllEnsure : List (ℕ → Got A) → Type 0
  AllEnsure [] = Unit {0}
  AllEnsure (r ∷ rs) = ((at : ℕ) → Ensures G (r at)) × AllEnsure rs

  ensures_reader : (rs : List (ℕ → Got A)) (k n p : ℕ) → AllEnsure rs → (at : ℕ) → Ensures G (get_or rs k (λ a. no n p) at)
  ensures_reader [] k n p h at = refused
  ensures_reader (r ∷ rs) ℕ.zero n p h at = h.0 at
  ensures_reader (r ∷ rs) (ℕ.suc k) n p h at = ensures_reader rs k n p h.1 at

  pub ensures_record : (rs : List (ℕ → Got A)) (s : List ℕ) (at : ℕ) → AllEnsure rs → Ensures G (record_at rs s at)
  unfolding record_at
  ensures_record rs s at h = whatever (number s at) λ kind a. ensures_reader rs kind out_of_range at h a
