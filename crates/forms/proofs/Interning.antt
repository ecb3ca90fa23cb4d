-- Searching for a word among the words in use, and interning it: found, or appended. What interning allows is one answer.
use Prim.Native.Nat.{ℕ, suc, ◌+◌, ◌≤◌, ◌<◌}
use mathlib.Core.Path.{◌≡◌, sym, ap, ◌∙◌}
use mathlib.Core.List.{List, [], ◌∷◌, ◌++◌, append_assoc}
use native.Mathlib.Omega.{arith}
use native.Mathlib.Numerals.{add-one}
use native.Mathlib.Nat.{min-le_left}
use native.Mathlib.Decide.{dec_lt}
use lib.ListN.{length, get_or, set, take, drop, length-append, length-take, drop_of_length-le}
use lib.Seq.{sets, drop-cons, get_or-take, length-take-le, take_all, take_at}
use borrow.Author.Tests.{eq-eqb, ne_eqb}
use Rattle.words.specs.Front.{front}
use Rattle.words.proofs.Fronts.{front_own, front_snoc, take_front}
use Rattle.words.proofs.Runs.{front_sets}
use Rattle.forms.specs.declared.Formed.{Formed}
use Rattle.forms.specs.Interned.{unless, position, having, Interned, first}
use Rattle.forms.proofs.Positions.{position_le, having_old, having_new}

-- how many of the first n words a buffer has
pub count_all : (n : ℕ) (t : List ℕ) → n ≤ length t → n ≡ length (take n t)
count_all n t h = sym (length-take-le n t h)

pub count_short : (n : ℕ) (t : List ℕ) → length t < n → length t ≡ length (take n t)
count_short n t h = ap length (sym (take_all n t (omega arith)))

count_le : (n : ℕ) (t : List ℕ) → length (take n t) ≤ n
count_le n t = rw (length-take n t) (min-le_left n (length t))

-- the first i words in use are not w
pub record Passed (w : ℕ) (ws : List ℕ) (i : ℕ) : Type 0 where
  pub within : i ≤ length ws
  pub same : position w ws ≡ i + position w (drop i ws)

pub passed_none : (w : ℕ) (ws : List ℕ) → Passed w ws 0
passed_none w ws = record { within = omega arith; same = omega arith }

module _ (w n : ℕ) (t : List ℕ) (end : ℕ) (e : end ≡ length (take n t)) (i : ℕ) (p : Passed w (take n t) i) where
  abbrev used : List ℕ
  used = take n t

  module _ (h : i < end) where
    next : drop i used ≡ get_or t i 0 ∷ drop (i + 1) used
    next =
        let m = count_le n t in
        rw (drop-cons used i 0 (omega arith), get_or-take n t i 0 (omega arith), add-one)

    pub passed_hit : get_or t i 0 ≡ w → i ≡ position w used
    unfolding position unless
    passed_hit g =
        let s : position w (drop i used) ≡ 0 = rw (next, eq-eqb (get_or t i 0) w g) in
        omega (arith, p.same)

    pub passed_more : (get_or t i 0 ≡ w → ⊥) → Passed w used (i + 1)
    unfolding position unless
    passed_more g =
        let s : position w (drop i used) ≡ suc (position w (drop (i + 1) used)) = rw (next, ne_eqb (get_or t i 0) w g) in
        record { within = omega arith; same = omega (arith, p.same) }

  pub passed_all : end ≤ i → end ≡ position w used
  unfolding position
  passed_all h =
      let m = p.within in
      let s : position w (drop i used) ≡ 0 = rw (drop_of_length-le used {i = i} (omega arith)) in
      omega (arith, p.same)

-- the two ways of interning
module _ (w n : ℕ) (t : List ℕ) (room : n < length t) (i : ℕ) (e : i ≡ position w (take n t)) where
  count : length (take n t) ≡ n
  count = length-take-le n t (omega arith)

  pub interned_old : i < n → Interned w n t t (record { at = i; size = n })
  interned_old h =
      let l = count in
      let o = having_old w (take n t) (omega arith) in
      record { at = e; size = rw o (sym l); words = rw o (sym (front_own n t)) }

  pub interned_new : n ≤ i → (u : List ℕ) → u ≡ set t n w → Interned w n t u (record { at = n; size = n + 1 })
  interned_new h u s =
      let l = count in
      let o = having_new w (take n t) (omega arith) in
      let b = position_le w (take n t) in
      record {
        at = omega arith;
        size = rw (o, length-append) (omega arith);
        words = s ∙ stored ∙ rw o;
      }
    where
      stored : set t n w ≡ front (take n t ++ (w ∷ [])) t
      stored =
          let l = count in
          let z = front_snoc (take n t) t w (omega arith) in
          let y = rw (front_own n t) at z in
          rw l at y

-- a buffer with room for them has true and false in front at its start
pub started : (t : List ℕ) → 2 ≤ length t → sets t 0 first ≡ front first t
started t h = front_sets first t h

pub used_first : (t : List ℕ) → 2 ≤ length t → take 2 (sets t 0 first) ≡ first
used_first t h = rw (started t h) (take_front first t)

-- the words in use after interning
pub used_after : (w n : ℕ) (t u : List ℕ) (r : Formed) → Interned w n t u r → take r.size u ≡ having w (take n t)
used_after w n t u r i = rw (i.size, i.words) (take_front (having w (take n t)) t)

-- it lengthens the words in use by one at most, keeps those that were there, and gives the number of one of them
pub record Sized (n : ℕ) (t u : List ℕ) (r : Formed) : Type 0 where
  pub least : n ≤ r.size
  pub most : r.size ≤ n + 1
  pub within : r.at < r.size
  pub kept : take n u ≡ take n t

pub sized : (w n : ℕ) (t u : List ℕ) (r : Formed) → n ≤ length t → Interned w n t u r → Sized n t u r
sized w n t u r room i = go (dec_lt (position w (take n t)) (length (take n t)))
  where
    go : Dec (position w (take n t) < length (take n t)) → Sized n t u r
    go (yes h) =
        let l = length-take-le n t room in
        let o = having_old w (take n t) h in
        let z : r.size ≡ length (take n t) = i.size ∙ ap length o in
        let a = i.at in
        let e : u ≡ t = i.words ∙ ap (λ (ws : List ℕ). front ws t) o ∙ front_own n t in
        record { least = omega arith; most = omega arith; within = omega arith; kept = ap (take n) e }
    go (no h) =
        let l = length-take-le n t room in
        let b = position_le w (take n t) in
        let o = having_new w (take n t) (omega arith) in
        let z : r.size ≡ length (take n t) + 1 = i.size ∙ ap length o ∙ length-append (take n t) (w ∷ []) in
        let a = i.at in
        let ws : List ℕ = take n t ++ (w ∷ []) in
        let e : u ≡ take n t ++ ((w ∷ []) ++ drop (length ws) t) = i.words ∙ ap (λ (vs : List ℕ). front vs t) o ∙ append_assoc (take n t) (w ∷ []) (drop (length ws) t) in
        record { least = omega arith; most = omega arith; within = omega arith; kept = ap (take n) e ∙ take_at (take n t) ((w ∷ []) ++ drop (length ws) t) n l }

-- two answers that interning allows are one, and so are the buffers that it leaves
pub interned_once : (w n : ℕ) (t u u' : List ℕ) (r r' : Formed) → Interned w n t u r → Interned w n t u' r' → (r ≡ r') × (u ≡ u')
interned_once w n t u u' r r' i j = (formed_by r.at r'.at r.size r'.size (i.at ∙ sym j.at) (i.size ∙ sym j.size), i.words ∙ sym j.words)
  where
    formed_by : (a a' b b' : ℕ) → a ≡ a' → b ≡ b' → ◌≡◌ {A = Formed} (record { at = a; size = b }) (record { at = a'; size = b' })
    formed_by a a' b b' e f = rw (e, f)
