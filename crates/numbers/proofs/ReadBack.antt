-- What is written is read back: over a number's shortest form the definition's `number` gives that number.
use Prim.Native.Nat.{ℕ, ◌+◌, ◌*◌, ◌-◌, ◌/◌, ◌%◌, ◌≤◌, ◌<◌}
use mathlib.Core.Path.{◌≡◌, refl, sym, ap, ◌∙◌}
use mathlib.Core.Bool.{Bool, true, false}
use mathlib.Core.List.{List, [], ◌∷◌, ◌++◌, append_assoc}
use native.Mathlib.Omega.{arith}
use lib.ListN.{length, get_or, take, drop, length-append}
use lib.Dec.{ltb}
use lib.Seq.{sets, sets-eq, length-take-le, get_or-append-add}
use borrow.Author.Tests.{lt-ltb, le-ltb, le-leb, ltb-true, ltb-false}
use Rattle.language.specs.Numbers.{got, number, second, third, check, pick, groups}
use Rattle.theorems.proofs.Spelling.{one_group}
use Rattle.numbers.proofs.Groups.{two_groups, three_groups}

-- numbers of one, two and three groups, by the bytes at their places
module _ (s : List ℕ) (at : ℕ) where
  read_1 : (a : ℕ) → at < length s → get_or s at 0 ≡ a → a < 128 → number s at ≡ got a (at + 1)
  unfolding number check pick
  read_1 a l e h = simp (lt-ltb _ _ l, e, lt-ltb _ _ h)

  read_2 : (a b : ℕ) → at + 1 < length s → get_or s at 0 ≡ a → get_or s (at + 1) 0 ≡ b → 128 ≤ a → 0 < b → b < 128 → number s at ≡ got (a - 128 + 128 * b) (at + 2)
  unfolding number second check pick
  read_2 a b m e f h g g' =
      let l : at < length s = omega arith in
      simp (lt-ltb _ _ l, e, le-ltb _ _ h, lt-ltb _ _ m, f, lt-ltb _ _ g, lt-ltb _ _ g')

  read_3 : (a b c : ℕ) → at + 2 < length s → get_or s at 0 ≡ a → get_or s (at + 1) 0 ≡ b → get_or s (at + 2) 0 ≡ c
      → 128 ≤ a → 128 ≤ b → 0 < c → c < 128 → a - 128 + 128 * (b - 128) + 16384 * c ≤ 65535
      → number s at ≡ got (a - 128 + 128 * (b - 128) + 16384 * c) (at + 3)
  unfolding number second third check pick
  read_3 a b c n e f g h i j k top =
      let l : at < length s = omega arith in
      let m : at + 1 < length s = omega arith in
      simp (lt-ltb _ _ l, e, le-ltb _ _ h, lt-ltb _ _ m, f, le-ltb _ _ i, lt-ltb _ _ n, g, lt-ltb _ _ j, lt-ltb _ _ k, le-leb _ _ top)

-- the bytes from a place on are those of v
module _ (before after : List ℕ) (v : ℕ) (small : v ≤ 65535) where
  abbrev bytes : List ℕ
  bytes = before ++ (groups v ++ after)

  byte : (vs : List ℕ) → groups v ≡ vs → (i : ℕ) → get_or bytes (length before + i) 0 ≡ get_or (vs ++ after) i 0
  byte vs e i = rw e (get_or-append-add before (vs ++ after) i 0)

  long : (vs : List ℕ) → groups v ≡ vs → length bytes ≡ length before + (length vs + length after)
  long vs e = rw e (length-append before (vs ++ after) ∙ ap (λ (n : ℕ). length before + n) (length-append vs after))

  -- a number's form, wherever it stands, is read as that number
  pub read_amid : number bytes (length before) ≡ got v (length before + length (groups v))
  read_amid = go (ltb v 128) refl (ltb v 16384) refl
    where
      first : (vs : List ℕ) → groups v ≡ vs → get_or bytes (length before) 0 ≡ get_or (vs ++ after) 0 0
      first vs e = let z : length before + 0 ≡ length before = omega arith in rw z at (byte vs e 0)

      go : (a : Bool) → ltb v 128 ≡ a → (b : Bool) → ltb v 16384 ≡ b → number bytes (length before) ≡ got v (length before + length (groups v))
      go true p b q =
          let h = ltb-true v 128 p in
          let e = one_group v h in
          let l = long (v ∷ []) e in
          read_1 bytes (length before) v (omega arith) (first (v ∷ []) e) h ∙ ap (λ (vs : List ℕ). got v (length before + length vs)) (sym e)
      go false p true q =
          let h = ltb-false v 128 p in
          let g = ltb-true v 16384 q in
          let e = two_groups v h g in
          let vs : List ℕ = (128 + v % 128) ∷ (v / 128 ∷ []) in
          let l = long vs e in
          let n : 128 + v % 128 - 128 + 128 * (v / 128) ≡ v = omega arith in
          read_2 bytes (length before) (128 + v % 128) (v / 128) (omega arith) (first vs e) (byte vs e 1) (omega arith) (omega arith) (omega arith)
          ∙ ap (λ (x : ℕ). got x (length before + 2)) n
          ∙ ap (λ (us : List ℕ). got v (length before + length us)) (sym e)
      go false p false q =
          let h = ltb-false v 16384 q in
          let e = three_groups v h in
          let vs : List ℕ = (128 + v % 128) ∷ ((128 + v / 128 % 128) ∷ (v / 16384 ∷ [])) in
          let l = long vs e in
          let n : 128 + v % 128 - 128 + 128 * (128 + v / 128 % 128 - 128) + 16384 * (v / 16384) ≡ v = omega arith in
          read_3 bytes (length before) (128 + v % 128) (128 + v / 128 % 128) (v / 16384) (omega arith) (first vs e) (byte vs e 1) (byte vs e 2)
          (omega arith) (omega arith) (omega arith) (omega arith) (omega arith)
          ∙ ap (λ (x : ℕ). got x (length before + 3)) n
          ∙ ap (λ (us : List ℕ). got v (length before + length us)) (sym e)

-- what `write` leaves is read back at its place
pub read_back : (s : List ℕ) (at v : ℕ) → v ≤ 65535 → at + length (groups v) ≤ length s → number (sets s at (groups v)) at ≡ got v (at + length (groups v))
read_back s at v small room =
    let after : List ℕ = drop (at + length (groups v)) s in
    let l : length (take at s) ≡ at = length-take-le at s (omega arith) in
    let stored : sets s at (groups v) ≡ take at s ++ (groups v ++ after) = sets-eq (groups v) s at room ∙ append_assoc (take at s) (groups v) after in
    rw stored (rw l at (read_amid (take at s) after v small))
