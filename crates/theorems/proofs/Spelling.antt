-- The other way round: where bytes are read as a number, its shortest form stands there, and the next place is after it.
use Prim.Native.Nat.{ℕ, ◌+◌, ◌-◌, ◌*◌, ◌/◌, ◌%◌, ◌≤◌, ◌<◌}
use native.Mathlib.Nat.{add-zero}
use native.Mathlib.Omega.{arith}
use mathlib.Core.Path.{◌≡◌, sym, ap, ◌∙◌}
use mathlib.Core.List.{List, [], ◌∷◌, ◌++◌, append_assoc}
use mathlib.Core.Bool.{◌&&◌, and-eq-true_iff}
use lib.ListN.{length, get_or, take, drop, length-append, take-append-drop}
use lib.Seq.{get_or_at, length-take-le}
use lib.Dec.{ltb, leb}
use borrow.Author.Tests.{lt-ltb, le-ltb, ltb-true, ltb-false, leb-true}
use Rattle.language.specs.Refusals.{bytes_end, not_shortest}
use Rattle.language.specs.Numbers.{pick, number, second, third, groups}
use Rattle.theorems.proofs.Reading.{Ensures, given, ensures_check, ensures_pick}
use Rattle.theorems.proofs.ReadBack.{Has}

-- one byte more
more : {s : List ℕ} {at : ℕ} (xs : List ℕ) → Has s at xs → at + length xs < length s → Has s at (xs ++ (get_or s (at + length xs) 0 ∷ []))
more {s} {at} xs w l = by_back w.back w.whole
  where
    by_back : (back : List ℕ) → s ≡ w.front ++ (xs ++ back) → Has s at (xs ++ (get_or s (at + length xs) 0 ∷ []))
    by_back [] e = absurd (omega (arith, w.place, simp length-append at (ap length e)))
    by_back (y ∷ ys) e =
        let f : s ≡ (w.front ++ xs) ++ (y ∷ ys) = e ∙ simp append_assoc in
        let n : length (w.front ++ xs) ≡ at + length xs = simp length-append (omega (arith, w.place)) in
        let z : get_or s (at + length xs) 0 ≡ y = rw f (get_or_at (w.front ++ xs) y ys 0 (at + length xs) n) in
        rw z (record { front = w.front; back = ys; whole = e ∙ simp append_assoc; place = w.place })

pub nothing_yet : (s : List ℕ) (at : ℕ) → at ≤ length s → Has s at []
nothing_yet s at h = record { front = take at s; back = drop at s; whole = sym (take-append-drop at s); place = sym (length-take-le at s h) }

-- a small number is one byte
pub one_group : (a : ℕ) → a < 128 → groups a ≡ a ∷ []
unfolding groups pick
one_group a h = simp (lt-ltb a 128 h)

low_bits : (a b : ℕ) → 128 ≤ a → a < 256 → 128 + (a - 128 + 128 * b) % 128 ≡ a
low_bits a b g h = omega arith

groups_2 : (a b : ℕ) → 128 ≤ a → a < 256 → 0 < b → b < 128 → groups (a - 128 + 128 * b) ≡ a ∷ (b ∷ [])
unfolding groups pick
groups_2 a b g g' h h' =
    let v = a - 128 + 128 * b in
    let l : 128 ≤ v = omega arith in
    let m : v < 16384 = omega arith in
    let q : v / 128 ≡ b = omega arith in
    rw (le-ltb v 128 l, lt-ltb v 16384 m, low_bits a b g g', q)

groups_3 : (a b c : ℕ) → 128 ≤ a → a < 256 → 128 ≤ b → b < 256 → 0 < c →
    groups (a - 128 + 128 * (b - 128) + 16384 * c) ≡ a ∷ (b ∷ (c ∷ []))
unfolding groups pick
groups_3 a b c g g' h h' i =
    let v = a - 128 + 128 * (b - 128) + 16384 * c in
    let l : 128 ≤ v = omega arith in
    let m : 16384 ≤ v = omega arith in
    let p : 128 + v % 128 ≡ a = omega arith in
    let d : v / 128 ≡ b - 128 + 128 * c = omega arith in
    let q : 128 + v / 128 % 128 ≡ b = rw d (low_bits b c h h') in
    let r : v / 16384 ≡ c = omega arith in
    rw (le-ltb v 128 l, le-ltb v 16384 m, p, q, r)

-- what is read of v up to next
pub record Spells (s : List ℕ) (at v next : ℕ) : Type 0 where
  pub bytes : Has s at (groups v)
  pub ends : next ≡ at + length (groups v)
  pub fits : v ≤ 65535

spelled : {s : List ℕ} {at : ℕ} (v : ℕ) (xs : List ℕ) → groups v ≡ xs → v ≤ 65535 → Has s at xs → Spells s at v (at + length xs)
spelled v xs e h w = record { bytes = rw e w; ends = rw e; fits = h }

-- the bytes at a place
module _ (s : List ℕ) (at : ℕ) where
  pub has_1 : at < length s → Has s at (get_or s at 0 ∷ [])
  has_1 l = rw add-zero at (more [] (nothing_yet s at (omega arith)) (omega arith))

  pub has_2 : at + 1 < length s → Has s at (get_or s at 0 ∷ (get_or s (at + 1) 0 ∷ []))
  has_2 l = more (get_or s at 0 ∷ []) (has_1 (omega arith)) l

  pub has_3 : at + 2 < length s → Has s at (get_or s at 0 ∷ (get_or s (at + 1) 0 ∷ (get_or s (at + 2) 0 ∷ [])))
  has_3 l = more (get_or s at 0 ∷ (get_or s (at + 1) 0 ∷ [])) (has_2 (omega arith)) l

module _ (s : List ℕ) (bytes : (i : ℕ) → get_or s i 0 < 256) (at : ℕ) where
  third_spells : 128 ≤ get_or s at 0 → 128 ≤ get_or s (at + 1) 0 →
      Ensures (λ v next. Spells s at v next) (third s at (get_or s at 0 - 128 + 128 * (get_or s (at + 1) 0 - 128)))
  unfolding third
  third_spells g h =
      let a = get_or s at 0 in
      let b = get_or s (at + 1) 0 in
      let c = get_or s (at + 2) 0 in
      let v = a - 128 + 128 * (b - 128) + 16384 * c in
      ensures_check (ltb (at + 2) (length s)) bytes_end at λ l.
      ensures_check (ltb 0 c && ltb c 128 && leb v 65535) not_shortest at λ t.
      let u = (and-eq-true_iff (ltb 0 c && ltb c 128) (leb v 65535)).0 t in
      let w = (and-eq-true_iff (ltb 0 c) (ltb c 128)).0 u.0 in
      given (spelled v (a ∷ (b ∷ (c ∷ []))) (groups_3 a b c g (bytes at) h (bytes (at + 1)) (ltb-true 0 c w.0))
      (leb-true v 65535 u.1) (has_3 s at (ltb-true (at + 2) (length s) l)))

  second_spells : 128 ≤ get_or s at 0 → Ensures (λ v next. Spells s at v next) (second s at (get_or s at 0 - 128))
  unfolding second
  second_spells g =
      let a = get_or s at 0 in
      let b = get_or s (at + 1) 0 in
      ensures_check (ltb (at + 1) (length s)) bytes_end at λ l.
      ensures_pick (ltb b 128)
      (λ t. ensures_check (ltb 0 b) not_shortest at λ u.
      let h = ltb-true b 128 t in
      let i = ltb-true 0 b u in
      given (spelled (a - 128 + 128 * b) (a ∷ (b ∷ [])) (groups_2 a b g (bytes at) i h) (omega (arith, bytes at)) (has_2 s at (ltb-true (at + 1) (length s) l))))
      (λ t. third_spells g (ltb-false b 128 t))

  pub number_spells : Ensures (λ v next. Spells s at v next) (number s at)
  unfolding number
  number_spells =
      let a = get_or s at 0 in
      ensures_check (ltb at (length s)) bytes_end at λ l.
      ensures_pick (ltb a 128)
      (λ t.
      let h = ltb-true a 128 t in
      given (spelled a (a ∷ []) (one_group a h) (omega arith) (has_1 s at (ltb-true at (length s) l))))
      (λ t. second_spells (ltb-false a 128 t))
