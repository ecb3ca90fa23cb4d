-- One record and one node's beginning, emitted number by number.
use Prim.Native.Nat.{ℕ, zero, suc, ◌-◌, ◌≤◌, ◌<◌}
use mathlib.Core.Path.{◌≡◌, refl, sym, ap, subst}
use mathlib.Core.Bool.{Bool}
use mathlib.Core.List.{List, [], ◌++◌, append-nil}
use native.Mathlib.Omega.{arith}
use lib.ListN.{get_or}
use Rattle.language.specs.Numbers.{groups}
use Rattle.forms.specs.Word.{kind, left, right}
use Rattle.certificates.specs.Emitted.{Fits, Emitted, placed, Placed, part_bytes, word_bytes, PartsPlaced, rule_bytes, head_bytes, HeadFits}
use Rattle.certificates.proofs.Emitting.{groups_few, Amid, amid_start, amid_more, amid_end, amid_fits, amid_fits_last, amid_last}

-- what follows a kind
module _ (f : ℕ → List ℕ) (w : ℕ) where
  parts_plain : (k : ℕ) → 1 ≤ k → k < 3 → part_bytes f k w ≡ []
  unfolding part_bytes
  parts_plain zero n h = absurd (omega arith)
  parts_plain (suc zero) n h = refl
  parts_plain (suc (suc zero)) n h = refl
  parts_plain (suc (suc (suc k))) n h = absurd (omega arith)

  second : ℕ → List ℕ
  second zero = []
  second (suc k) = f (right w)

  parts_first : (k : ℕ) → 3 ≤ k → part_bytes f k w ≡ f (left w) ++ second (k - 3)
  unfolding part_bytes second
  parts_first zero h = absurd (omega arith)
  parts_first (suc zero) h = absurd (omega arith)
  parts_first (suc (suc zero)) h = absurd (omega arith)
  parts_first (suc (suc (suc zero))) h = sym (append-nil (f (left w)))
  parts_first (suc (suc (suc (suc k)))) h = let e : suc (suc (suc (suc k))) - 3 ≡ suc k = omega arith in rw e

  second_none : (k : ℕ) → k ≡ 3 → second (k - 3) ≡ []
  unfolding second
  second_none k e = let z : k - 3 ≡ 0 = omega arith in rw z

  second_some : (k : ℕ) → 4 ≤ k → second (k - 3) ≡ f (right w)
  unfolding second
  second_some k h =
      let z : k - 3 ≡ suc (k - 4) = omega arith in
      rw z

-- a record, once its kind is known
module _ (b : Bool) (o : List ℕ) (at : ℕ) (t : List ℕ) (w k : ℕ) (jk : k ≡ kind w) (pre : PartsPlaced t w × Fits b at (word_bytes t w) o × (at ≤ 1000000)) where
  start : Amid b o at (word_bytes t w) o at (groups k ++ part_bytes (placed t) k w)
  unfolding word_bytes
  start = rw jk amid_start

  pub kind_fits : Fits b at (groups k) o × (k ≤ 65535) × (at ≤ 1000010)
  kind_fits = (amid_fits pre.1 (groups k) (part_bytes (placed t) k w) start, omega (arith, jk), omega (arith, pre.2))

  module _ (o₁ : List ℕ) (a : ℕ) (e : Emitted b o at (groups k) o₁ a) where
    after_kind : Amid b o at (word_bytes t w) o₁ a (part_bytes (placed t) k w)
    after_kind = amid_more (groups k) (part_bytes (placed t) k w) start e

    near : a ≤ 1000003
    near = omega (arith, e.past, groups_few k, pre.2)

    -- an atom
    after_atom : k ≡ 0 → Amid b o at (word_bytes t w) o₁ a (groups (left w))
    unfolding part_bytes
    after_atom z = rw z at after_kind

    pub atom_fits : (l : ℕ) → l ≡ left w → k ≡ 0 → Fits b a (groups l) o₁ × (l ≤ 65535) × (a ≤ 1000010)
    atom_fits l j z = (rw j (amid_fits_last pre.1 (groups (left w)) (after_atom z)), omega (arith, j), omega (arith, near))

    pub atom_emitted : (l : ℕ) (o₂ : List ℕ) (r : ℕ) → l ≡ left w → k ≡ 0 → Emitted b o₁ a (groups l) o₂ r → Emitted b o at (word_bytes t w) o₂ r
    atom_emitted l o₂ r j z g = amid_last (groups (left w)) (after_atom z) (rw j at g)

    -- true or false
    pub plain_emitted : 1 ≤ k → k < 3 → Emitted b o at (word_bytes t w) o₁ a
    plain_emitted n h = amid_end (rw (parts_plain (placed t) w k n h) at after_kind)

    -- a connective
    module _ (h : 3 ≤ k) (l : ℕ) (jl : l ≡ left w) where
      before_first : Amid b o at (word_bytes t w) o₁ a (placed t l ++ second (placed t) w (k - 3))
      before_first = rw (jl, ← parts_first (placed t) w k h) after_kind

      pub first_fits : Placed t l × Fits b a (placed t l) o₁ × (a ≤ 1000010)
      first_fits = (
        rw jl (pre.0.first (omega (arith, jk))),
        amid_fits pre.1 (placed t l) (second (placed t) w (k - 3)) before_first,
        omega (arith, near),
      )

      module _ (o₂ : List ℕ) (c : ℕ) (g : Emitted b o₁ a (placed t l) o₂ c) where
        after_first : Amid b o at (word_bytes t w) o₂ c (second (placed t) w (k - 3))
        after_first = amid_more (placed t l) (second (placed t) w (k - 3)) before_first g

        pub neg_emitted : k ≡ 3 → Emitted b o at (word_bytes t w) o₂ c
        neg_emitted z = amid_end (rw (second_none (placed t) w k z) at after_first)

        module _ (n : 4 ≤ k) (r : ℕ) (jr : r ≡ right w) where
          before_second : Amid b o at (word_bytes t w) o₂ c (placed t r)
          before_second = rw (jr, ← second_some (placed t) w k n) after_first

          pub second_fits : Placed t r × Fits b c (placed t r) o₂ × (c ≤ 1000010)
          second_fits = (
            rw jr (pre.0.second (omega (arith, jk, n))),
            amid_fits_last pre.1 (placed t r) before_second,
            omega (arith, near, g.past, groups_few (get_or t l 0 - 1)),
          )

          pub bin_emitted : (o₃ : List ℕ) (d : ℕ) → Emitted b o₂ c (placed t r) o₃ d → Emitted b o at (word_bytes t w) o₃ d
          bin_emitted o₃ d i = amid_last (placed t r) before_second i

-- the beginning of a node, by its first two tokens
module _ (b : Bool) (o : List ℕ) (at : ℕ) (x y : ℕ) (pre : HeadFits x y b at o) (close : at ≤ 1000000) where
  head_start : Amid b o at (head_bytes x y) o at (groups x ++ rule_bytes x y)
  unfolding head_bytes
  head_start = amid_start

  pub head_fits : Fits b at (groups x) o × (x ≤ 65535) × (at ≤ 1000010)
  head_fits = (amid_fits pre.fits (groups x) (rule_bytes x y) head_start, omega (arith, pre.kind), omega arith)

  module _ (o₁ : List ℕ) (a : ℕ) (e : Emitted b o at (groups x) o₁ a) where
    after_head : Amid b o at (head_bytes x y) o₁ a (rule_bytes x y)
    after_head = amid_more (groups x) (rule_bytes x y) head_start e

    before_rule : x ≡ 0 → Amid b o at (head_bytes x y) o₁ a (groups y)
    unfolding rule_bytes
    before_rule z = let u = after_head in subst (Amid b o at (head_bytes x y) o₁ a) (ap (λ (n : ℕ). rule_bytes n y) z) u

    pub rule_fits : x ≡ 0 → Fits b a (groups y) o₁ × (y ≤ 65535) × (a ≤ 1000010)
    rule_fits z = (amid_fits_last pre.fits (groups y) (before_rule z), omega (arith, pre.rule z), omega (arith, e.past, groups_few x))

    pub rule_emitted : (o₂ : List ℕ) (r : ℕ) → x ≡ 0 → Emitted b o₁ a (groups y) o₂ r → Emitted b o at (head_bytes x y) o₂ r
    rule_emitted o₂ r z g = amid_last (groups y) (before_rule z) g

    rule_none : (n : ℕ) → (n ≡ 0 → ⊥) → rule_bytes n y ≡ []
    unfolding rule_bytes
    rule_none zero h = absurd (h refl)
    rule_none (suc n) h = refl

    pub head_emitted : (x ≡ 0 → ⊥) → Emitted b o at (head_bytes x y) o₁ a
    head_emitted n = amid_end (subst (Amid b o at (head_bytes x y) o₁ a) (rule_none x n) after_head)
