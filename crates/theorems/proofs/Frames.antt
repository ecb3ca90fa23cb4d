-- What is read is read of bytes of its own: wherever those bytes stand, in a sheet that may have more before, the same is read.
use Prim.Native.Nat.{ℕ, ◌+◌, ◌-◌, ◌*◌, ◌≤◌}
use native.Mathlib.Nat.{add-zero}
use native.Mathlib.Omega.{arith}
use mathlib.Core.Path.{◌≡◌, refl, sym, ◌∙◌}
use mathlib.Core.List.{List, [], ◌∷◌, ◌++◌}
use mathlib.Core.Bool.{Bool, true, false, ◌&&◌, and-eq-true_iff}
use lib.ListN.{length, get_or, length-append}
use lib.Dec.{ltb, leb}
use borrow.Author.Tests.{ltb-true, ltb-false, leb-true}
use Rattle.language.specs.Numbers.{Got, got, no, then, check, pick, number, second, third, times, record_at}
use Rattle.theorems.proofs.Reading.{got_is, got_then}
use Rattle.theorems.proofs.ReadBack.{Has, has_left, has_right, number_1, number_2, number_3}
use Rattle.theorems.proofs.Spelling.{has_1, has_2, has_3, nothing_yet}
use Rattle.theorems.proofs.Places.{has_within, has_join}

-- `Framed R s at g`: what g gives, read of s at a place, stands there in bytes of its own, and R gives it wherever those bytes stand;
-- o is the place that R's refusals name
pub data Framed {A : Type 0} (R : ℕ → List ℕ → ℕ → Got A) (s : List ℕ) (at : ℕ) : Got A → Type 0 where
  framed : {v : A} {next : ℕ} (xs : List ℕ) → Has s at xs → next ≡ at + length xs →
      ((o : ℕ) (t : List ℕ) (b : ℕ) → Has t b xs → R o t b ≡ got v (b + length xs)) → Framed R s at (got v next)
  refused : {n p : ℕ} → Framed R s at (no n p)

module _ {A : Type 0} {s : List ℕ} {at : ℕ} where
  -- nothing more to read
  pub on_got : (v : A) → at ≤ length s → Framed (λ o t b. got v b) s at (got v at)
  on_got v l = framed [] (nothing_yet s at l) (sym (add-zero at)) (λ o t b z. got_is refl (sym (add-zero b)))

  pub on_check : {R : ℕ → List ℕ → ℕ → Got A} {g : Got A} (test test' : Bool) (n p : ℕ) → (test ≡ true → test' ≡ true) →
      (test ≡ true → Framed R s at g) → Framed (λ o t b. check test' n o (R o t b)) s at (check test n p g)
  unfolding check
  on_check true test' n p e h = rw (e refl) (h refl)
  on_check false test' n p e h = refused

  -- refusals name the place where the reading begins
  pub from_here : {R : ℕ → List ℕ → ℕ → Got A} {g : Got A} → Framed R s at g → Framed (λ o t b. R b t b) s at g
  from_here (framed xs w e k) = framed xs w e (λ o t b. k b t b)
  from_here refused = refused

module _ {A B : Type 0} {s : List ℕ} {at : ℕ} where
  joins : {R : ℕ → List ℕ → ℕ → Got A} (F : ℕ → A → List ℕ → ℕ → Got B) {v : A} {mid : ℕ} (xs : List ℕ) → Has s at xs → mid ≡ at + length xs →
      ((o : ℕ) (t : List ℕ) (b : ℕ) → Has t b xs → R o t b ≡ got v (b + length xs)) →
      {g : Got B} → Framed (λ o. F o v) s mid g → Framed (λ o t b. then (R o t b) (λ v. F o v t)) s at g
  joins F xs w e k (framed {next} ys w' e' k') =
      let ends : next ≡ at + length (xs ++ ys) = simp length-append (omega arith) in
      framed (xs ++ ys) (has_join xs ys w e w') ends
      (λ o t b z. got_then _ (k o t b (has_left xs ys z)) ∙ k' o t (b + length xs) (has_right xs ys z) ∙ got_is refl (simp length-append (omega arith)))
  joins F xs w e k refused = refused

  pub on_then : {R : ℕ → List ℕ → ℕ → Got A} {F : ℕ → A → List ℕ → ℕ → Got B} {g : Got A} {f : A → ℕ → Got B} → Framed R s at g →
      ((v : A) (mid : ℕ) → g ≡ got v mid → mid ≤ length s → Framed (λ o. F o v) s mid (f v mid)) →
      Framed (λ o t b. then (R o t b) (λ v. F o v t)) s at (then g f)
  unfolding then
  on_then (framed {v} {next} xs w e k) h =
      let l : next ≤ length s = rw e (has_within xs w) in
      joins _ xs w e k (h v next refl l)
  on_then refused h = refused

-- a number: its one, two or three bytes
module _ (s : List ℕ) (at : ℕ) where
  abbrev Numbered : Got ℕ → Type 0
  Numbered = Framed (λ o. number) s at

  where_true : (test : Bool) (n p : ℕ) {g : Got ℕ} → (test ≡ true → Numbered g) → Numbered (check test n p g)
  unfolding check
  where_true true n p h = h refl
  where_true false n p h = refused

  either_way : (test : Bool) {g h : Got ℕ} → (test ≡ true → Numbered g) → (test ≡ false → Numbered h) → Numbered (pick test g h)
  unfolding pick
  either_way true k m = k refl
  either_way false k m = m refl

  framed_third : 128 ≤ get_or s at 0 → 128 ≤ get_or s (at + 1) 0 →
      Numbered (third s at (get_or s at 0 - 128 + 128 * (get_or s (at + 1) 0 - 128)))
  unfolding third
  framed_third g h =
      let a = get_or s at 0 in
      let b = get_or s (at + 1) 0 in
      let c = get_or s (at + 2) 0 in
      let v = a - 128 + 128 * (b - 128) + 16384 * c in
      where_true (ltb (at + 2) (length s)) 3 at λ l.
      where_true (ltb 0 c && ltb c 128 && leb v 65535) 4 at λ t.
      let u = (and-eq-true_iff (ltb 0 c && ltb c 128) (leb v 65535)).0 t in
      let w = (and-eq-true_iff (ltb 0 c) (ltb c 128)).0 u.0 in
      framed (a ∷ (b ∷ (c ∷ []))) (has_3 s at (ltb-true (at + 2) (length s) l)) refl
      (λ o t d z. rw (z.whole, z.place)
      (number_3 z.front z.back a b c g h (ltb-true 0 c w.0) (ltb-true c 128 w.1) (leb-true v 65535 u.1)))

  framed_second : 128 ≤ get_or s at 0 → Numbered (second s at (get_or s at 0 - 128))
  unfolding second
  framed_second g =
      let a = get_or s at 0 in
      let b = get_or s (at + 1) 0 in
      where_true (ltb (at + 1) (length s)) 3 at λ l.
      either_way (ltb b 128)
      (λ t. where_true (ltb 0 b) 4 at λ u.
      framed (a ∷ (b ∷ [])) (has_2 s at (ltb-true (at + 1) (length s) l)) refl
      (λ o t' d z. rw (z.whole, z.place) (number_2 z.front z.back a b g (ltb-true 0 b u) (ltb-true b 128 t))))
      (λ t. framed_third g (ltb-false b 128 t))

  pub framed_number : Numbered (number s at)
  unfolding number
  framed_number =
      let a = get_or s at 0 in
      where_true (ltb at (length s)) 3 at λ l.
      either_way (ltb a 128)
      (λ t. framed (a ∷ []) (has_1 s at (ltb-true at (length s) l)) refl
      (λ o t' d z. rw (z.whole, z.place) (number_1 z.front z.back a (ltb-true a 128 t))))
      (λ t. framed_second (ltb-false a 128 t))

-- several in a row, each handed what was read before it
module _ {A : Type 0} (s : List ℕ) (r : List A → ℕ → Got A) (R : List ℕ → List A → ℕ → Got A)
    (one : (acc : List A) (at : ℕ) → at ≤ length s → Framed (λ o t. R t acc) s at (r acc at)) where
  pub framed_times : (n : ℕ) (acc : List A) (at : ℕ) → at ≤ length s → Framed (λ o t. times n (R t) acc) s at (times n r acc at)
  unfolding times
  framed_times ℕ.zero acc at l = on_got acc l
  framed_times (ℕ.suc n) acc at l = on_then (one acc at l) (λ a mid e m. framed_times n (acc ++ (a ∷ [])) mid m)

-- the readers of a record's operands, kind by kind, over s and over any sheet
pub data Readers {A : Type 0} (s : List ℕ) : List (ℕ → Got A) → (ℕ → List ℕ → List (ℕ → Got A)) → Type 0 where
  no_more : Readers s [] (λ o t. [])
  and_then : {r : ℕ → Got A} {rs : List (ℕ → Got A)} {h : ℕ → List ℕ → ℕ → Got A} {tl : ℕ → List ℕ → List (ℕ → Got A)} →
      ((at : ℕ) → at ≤ length s → Framed h s at (r at)) → Readers s rs tl → Readers s (r ∷ rs) (λ o t. h o t ∷ tl o t)

framed_reader : {A : Type 0} {s : List ℕ} {rs : List (ℕ → Got A)} {family : ℕ → List ℕ → List (ℕ → Got A)} → Readers s rs family →
    (kind n p at : ℕ) → at ≤ length s → Framed (λ o t. get_or (family o t) kind (λ a. no n o)) s at (get_or rs kind (λ a. no n p) at)
framed_reader no_more kind n p at l = refused
framed_reader (and_then f rest) ℕ.zero n p at l = f at l
framed_reader (and_then f rest) (ℕ.suc kind) n p at l = framed_reader rest kind n p at l

pub framed_record : {A : Type 0} {s : List ℕ} {rs : List (ℕ → Got A)} {family : ℕ → List ℕ → List (ℕ → Got A)} → Readers s rs family →
    (at : ℕ) → Framed (λ o t b. record_at (family b t) t b) s at (record_at rs s at)
unfolding record_at
framed_record {s} {rs} {family} readers at =
    from_here (on_then (framed_number s at) (λ kind mid e l. framed_reader readers kind 5 at mid l))
