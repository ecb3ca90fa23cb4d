-- What a reading that is not refused gives: a number in its range, and a place further on, inside the bytes or at their end.
use Prim.Native.Nat.{ℕ, ◌+◌, ◌*◌, ◌-◌, ◌≤◌, ◌<◌}
use mathlib.Core.Path.{◌≡◌, refl, ◌∙◌}
use mathlib.Core.Bool.{Bool, true, false, ◌&&◌, and-eq-true_iff}
use mathlib.Core.List.{List}
use native.Mathlib.Omega.{arith}
use lib.ListN.{length, get_or}
use lib.Dec.{ltb, leb}
use borrow.Author.Tests.{ltb-true, leb-true}
use Rattle.language.specs.Refusals.{bytes_end, not_shortest, out_of_range, wrong_reference}
use Rattle.language.specs.Numbers.{Got, got, no, then, check, pick, number, second, third, from, below}

-- what is refused is not read
pub not_got : {A B : Type 0} (n p : ℕ) (a : A) (next : ℕ) → no n p ≡ got a next → B
not_got n p a next e = let z : ◌≡◌ {A = ℕ} 0 1 = cc in absurd (omega arith)

-- a test that was passed, and what was read after it
pub record Passed {A : Type 0} (test : Bool) (g : Got A) (a : A) (next : ℕ) : Type 0 where
  pub held : test ≡ true
  pub read : g ≡ got a next

pub check_got : {A : Type 0} (test : Bool) (n p : ℕ) (g : Got A) (a : A) (next : ℕ) → check test n p g ≡ got a next → Passed test g a next
unfolding check
check_got true n p g a next e = record { held = refl; read = e }
check_got false n p g a next e = not_got n p a next e

-- the first of two readings, and the rest
pub record Then {A B : Type 0} (g : Got A) (f : A → ℕ → Got B) (b : B) (next : ℕ) : Type 0 where
  pub value : A
  pub place : ℕ
  pub first : g ≡ got value place
  pub rest : f value place ≡ got b next

pub then_got : {A B : Type 0} (g : Got A) (f : A → ℕ → Got B) (b : B) (next : ℕ) → then g f ≡ got b next → Then g f b next
unfolding then
then_got (got a at) f b next e = record { value = a; place = at; first = refl; rest = e }
then_got (no n p) f b next e = not_got n p b next e

-- the place past a number
pub record Place (s : List ℕ) (at next : ℕ) : Type 0 where
  pub after : at < next
  pub near : next ≤ at + 3
  pub inside : next ≤ length s

module _ (s : List ℕ) (at v next : ℕ) where
  -- k groups were read, all of them inside the bytes
  place : (k w : ℕ) → 0 < k → k ≤ 3 → at + k ≤ length s → got w (at + k) ≡ got v next → Place s at next
  place k w h g l e =
      let n : at + k ≡ next = cc in
      record { after = omega arith; near = omega arith; inside = omega arith }

  third_place : (low : ℕ) → third s at low ≡ got v next → Place s at next
  unfolding third
  third_place low e =
      let b : ℕ = get_or s (at + 2) 0 in
      let w : ℕ = low + 16384 * b in
      let read : Got ℕ = got w (at + 3) in
      let shortest : Bool = ltb 0 b && ltb b 128 && leb w 65535 in
      let p = check_got (ltb (at + 2) (length s)) bytes_end at (check shortest not_shortest at read) v next e in
      let l : at + 2 < length s = ltb-true _ _ p.held in
      place 3 w (omega arith) (omega arith) (omega arith) (check_got shortest not_shortest at read v next p.read).read

  second_place : (low : ℕ) → second s at low ≡ got v next → Place s at next
  unfolding second pick
  second_place low e =
      let p = check_got (ltb (at + 1) (length s)) bytes_end at (pick (ltb b 128) two (third s at (low + 128 * (b - 128)))) v next e in
      let l : at + 1 < length s = ltb-true _ _ p.held in
      go (ltb b 128) l p.read
    where
      b : ℕ
      b = get_or s (at + 1) 0

      w : ℕ
      w = low + 128 * b

      two : Got ℕ
      two = check (ltb 0 b) not_shortest at (got w (at + 2))

      go : (t : Bool) → at + 1 < length s → pick t two (third s at (low + 128 * (b - 128))) ≡ got v next → Place s at next
      go true l f = place 2 w (omega arith) (omega arith) (omega arith) (check_got (ltb 0 b) not_shortest at (got w (at + 2)) v next f).read
      go false l f = third_place (low + 128 * (b - 128)) f

  pub number_place : number s at ≡ got v next → Place s at next
  unfolding number pick
  number_place e =
      let p = check_got _ _ _ _ _ _ e in
      let l : at < length s = ltb-true _ _ p.held in
      go (ltb (get_or s at 0) 128) l p.read
    where
      go : (b : Bool) → at < length s → pick b (got (get_or s at 0) (at + 1)) (second s at (get_or s at 0 - 128)) ≡ got v next → Place s at next
      go true l f = place 1 _ (omega arith) (omega arith) (omega arith) f
      go false l f = second_place _ f

  -- a number in its range
  pub record Ranged (low top : ℕ) : Type 0 where
    pub read : number s at ≡ got v next
    pub from_low : low ≤ v
    pub to_top : v ≤ top

  pub from_got : (low top : ℕ) → from low top s at ≡ got v next → Ranged low top
  unfolding from then
  from_got low top e = go (number s at) refl e
    where
      go : (g : Got ℕ) → number s at ≡ g → then g (λ w m. check (leb low w && leb w top) out_of_range at (got w m)) ≡ got v next → Ranged low top
      go (got w m) r f =
          let p = check_got _ _ _ _ _ _ f in
          let t = (and-eq-true_iff _ _).0 p.held in
          let same : got w m ≡ got v next = p.read in
          let z : w ≡ v = cc in
          record { read = r ∙ same; from_low = omega (arith, leb-true low w t.0); to_top = omega (arith, leb-true w top t.1) }
      go (no k q) r f = not_got k q v next f

  -- a reference below its limit
  pub record Lower (n : ℕ) : Type 0 where
    pub read : number s at ≡ got v next
    pub low : v < n

  pub below_got : (n : ℕ) → below n s at ≡ got v next → Lower n
  unfolding below then
  below_got n e = go (number s at) refl e
    where
      go : (g : Got ℕ) → number s at ≡ g → then g (λ w m. check (ltb w n) wrong_reference at (got w m)) ≡ got v next → Lower n
      go (got w m) r f =
          let p = check_got _ _ _ _ _ _ f in
          let same : got w m ≡ got v next = p.read in
          let z : w ≡ v = cc in
          record { read = r ∙ same; low = omega (arith, ltb-true w n p.held) }
      go (no k q) r f = not_got k q v next f
