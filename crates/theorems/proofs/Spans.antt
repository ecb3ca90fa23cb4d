-- A reading goes on by so many bytes at most: a number by one, two or three, a record by those of its numbers. It looks at two bytes past
-- those at most, so that the front of the bytes gives what the whole does.
use Prim.Native.Nat.{ℕ, zero, suc, ◌+◌, ◌*◌, ◌-◌, ◌≤◌, ◌<◌}
use native.Mathlib.Omega.{arith}
use mathlib.Core.Path.{◌≡◌, refl, sym, ap, ◌∙◌}
use mathlib.Core.List.{List, [], ◌∷◌, ◌++◌}
use mathlib.Core.Bool.{Bool, true, false, ◌&&◌, and-eq-true_iff}
use lib.ListN.{length, get_or, take, length-append}
use lib.Seq.{get_or-take, take_all, length-take-le}
use lib.Dec.{ltb, leb, eqb}
use borrow.Author.Tests.{ltb-true, leb-true, leb-false, lt-ltb, ne_eqb}
use Rattle.language.specs.Refusals.{bytes_end, not_shortest, out_of_range, wrong_reference}
use Rattle.language.specs.Numbers.{Got, got, no, then, check, number, second, third, from, below, times, record_at}
use Rattle.theorems.proofs.Reading.{Ensures, given, refused, ensured, ensures_check, ensures_pick}

-- two readings give the same, and what they give, if they give any, has G
pub data Alike {A : Type 0} (G : A → ℕ → Type 0) : Got A → Got A → Type 0 where
  give : {a : A} {at : ℕ} → G a at → Alike G (got a at) (got a at)
  refuse : {n p : ℕ} → Alike G (no n p) (no n p)

module _ {A : Type 0} {G : A → ℕ → Type 0} where
  pub alike_same : {g g' : Got A} → Alike G g g' → g ≡ g'
  alike_same (give h) = refl
  alike_same refuse = refl

  pub alike_ensures : {g g' : Got A} → Alike G g g' → Ensures G g'
  alike_ensures (give h) = given h
  alike_ensures refuse = refused

  self : {g : Got A} → Ensures G g → Alike G g g
  self (given h) = give h
  self refused = refuse

  alike : {g g' : Got A} → g ≡ g' → Ensures G g' → Alike G g g'
  alike e h = rw e (self h)

  alike_map : {H : A → ℕ → Type 0} {g g' : Got A} → Alike G g g' → ((a : A) (at : ℕ) → G a at → H a at) → Alike H g g'
  alike_map (give {a = a} {at = at} h) k = give (k a at h)
  alike_map refuse k = refuse

  pub alike_both : {H : A → ℕ → Type 0} {g g' : Got A} → Alike G g g' → Ensures H g' → Alike (λ a at. G a at × H a at) g g'
  alike_both (give h) k = give (h, ensured k refl)
  alike_both refuse k = refuse

  pub alike_check : (t : Bool) (n p : ℕ) {g g' : Got A} → (t ≡ true → Alike G g g') → Alike G (check t n p g) (check t n p g')
  unfolding check
  alike_check true n p h = h refl
  alike_check false n p h = refuse

pub alike_then : {A B : Type 0} {G : A → ℕ → Type 0} {H : B → ℕ → Type 0} {g g' : Got A} {f f' : A → ℕ → Got B} →
    Alike G g g' → ((a : A) (at : ℕ) → G a at → Alike H (f a at) (f' a at)) → Alike H (then g f) (then g' f')
unfolding then
alike_then (give {a = a} {at = at} h) k = k a at h
alike_then refuse k = refuse

-- what is inside the front is inside the whole, and the whole ends there where the front does
module _ (n : ℕ) (s : List ℕ) where
  whole_or_longer : {A : Type 0} → (take n s ≡ s → A) → (length (take n s) ≡ n → n ≤ length s → A) → A
  whole_or_longer {A} whole longer = by_length (leb n (length s)) refl
    where
      by_length : (t : Bool) → leb n (length s) ≡ t → A
      by_length true e = let l = leb-true n (length s) e in longer (length-take-le n s l) l
      by_length false e = let l = leb-false n (length s) e in whole (take_all n s (omega arith))

  inside_front : (i : ℕ) → i < n → ltb i (length (take n s)) ≡ ltb i (length s)
  inside_front i h =
      whole_or_longer (λ e. ap (λ (l : List ℕ). ltb i (length l)) e)
      (λ e l. lt-ltb i (length (take n s)) (omega arith) ∙ sym (lt-ltb i (length s) (omega arith)))

  pub ends_front : (i : ℕ) → i < n → eqb i (length (take n s)) ≡ eqb i (length s)
  ends_front i h =
      whole_or_longer (λ e. ap (λ (l : List ℕ). eqb i (length l)) e)
      (λ e l. ne_eqb i (length (take n s)) (λ z. omega (arith, z, e, h)) ∙ sym (ne_eqb i (length s) (λ z. omega (arith, z, l, h))))

-- a number of two bytes is 128 at least, one of three 16,384
abbrev Sized : ℕ → ℕ → ℕ → Type 0
Sized at v next = (next ≤ at + 3) × (v < 16384 → next ≤ at + 2) × (v < 128 → next ≤ at + 1)

sized : (at v next : ℕ) → Sized at v next → Ensures (Sized at) (got v next)
sized at v next h = given h

module _ (s : List ℕ) (at : ℕ) where
  third_sized : (low : ℕ) → Ensures (Sized at) (third s at low)
  unfolding third
  third_sized low =
      let b = get_or s (at + 2) 0 in
      ensures_check (ltb (at + 2) (length s)) bytes_end at λ _.
      ensures_check (ltb 0 b && ltb b 128 && leb (low + 16384 * b) 65535) not_shortest at λ t.
      let some = ltb-true 0 b ((and-eq-true_iff (ltb 0 b) (ltb b 128)).0 ((and-eq-true_iff (ltb 0 b && ltb b 128) (leb (low + 16384 * b) 65535)).0 t).0).0 in
      sized at (low + 16384 * b) (at + 3) (omega arith, (λ h. omega (arith, some, h)), λ h. omega (arith, some, h))

  second_sized : (low : ℕ) → Ensures (Sized at) (second s at low)
  unfolding second
  second_sized low =
      let b = get_or s (at + 1) 0 in
      ensures_check (ltb (at + 1) (length s)) bytes_end at λ _.
      ensures_pick (ltb b 128)
      (λ _. ensures_check (ltb 0 b) not_shortest at λ t. let some = ltb-true 0 b t in sized at (low + 128 * b) (at + 2) (omega arith, (λ _. omega arith), λ h. omega (arith, some, h)))
      (λ _. third_sized (low + 128 * (b - 128)))

  number_sized : Ensures (Sized at) (number s at)
  unfolding number
  number_sized =
      let b = get_or s at 0 in
      ensures_check (ltb at (length s)) bytes_end at λ _.
      ensures_pick (ltb b 128) (λ _. sized at b (at + 1) (omega arith, (λ _. omega arith), λ _. omega arith)) (λ _. second_sized (b - 128))

-- a number is known by its three bytes
module _ (n : ℕ) (s : List ℕ) (at : ℕ) (room : at + 3 ≤ n) where
  number_front : number (take n s) at ≡ number s at
  unfolding number second third
  number_front =
      rw (
        get_or-take n s at 0 (omega arith),
        get_or-take n s (at + 1) 0 (omega arith),
        get_or-take n s (at + 2) 0 (omega arith),
        inside_front n s at (omega arith),
        inside_front n s (at + 1) (omega arith),
        inside_front n s (at + 2) (omega arith),
      )

  number_alike : Alike (Sized at) (number (take n s) at) (number s at)
  number_alike = alike number_front (number_sized s at)

  -- a number in a range, and a reference
  from_alike : (low top k : ℕ) → ((v next : ℕ) → Sized at v next → v ≤ top → next ≤ at + k) → Alike (λ v next. (v ≤ top) × (next ≤ at + k)) (from low top (take n s) at) (from low top s at)
  unfolding from
  from_alike low top k few =
      alike_then number_alike λ v next z.
      alike_check (leb low v && leb v top) out_of_range at λ t.
      let l = leb-true v top ((and-eq-true_iff (leb low v) (leb v top)).0 t).1 in
      give (l, few v next z l)

  below_alike : (m k : ℕ) → ((v next : ℕ) → Sized at v next → v < m → next ≤ at + k) → Alike (λ v next. next ≤ at + k) (below m (take n s) at) (below m s at)
  unfolding below
  below_alike m k few =
      alike_then number_alike λ v next z. alike_check (ltb v m) wrong_reference at λ t. let l = ltb-true v m t in give (few v next z l)

  pub refers : (m : ℕ) → m ≤ 16384 → Alike (λ v next. next ≤ at + 2) (below m (take n s) at) (below m s at)
  refers m h = below_alike m 2 (λ v next z l. z.1 (omega arith))

-- what R reads has P and goes on by k bytes at most, and the front of the bytes gives it, if it goes on by two bytes more
pub record Counts {A : Type 0} (P : A → Type 0) (k : ℕ) (R : List ℕ → ℕ → Got A) : Type 0 where
  pub reads : (n : ℕ) (s : List ℕ) (at : ℕ) → at + k + 2 ≤ n → Alike (λ a next. P a × (next ≤ at + k)) (R (take n s) at) (R s at)

pub record Spans {A : Type 0} (k : ℕ) (R : List ℕ → ℕ → Got A) : Type 0 where
  pub reads : (n : ℕ) (s : List ℕ) (at : ℕ) → at + k + 2 ≤ n → Alike (λ a next. next ≤ at + k) (R (take n s) at) (R s at)

pub counts_1 : (low top : ℕ) → top < 128 → Counts (λ v. v ≤ top) 1 (from low top)
counts_1 low top h = record { reads = λ n s at room. from_alike n s at (omega arith) low top 1 (λ v next z l. z.2 (omega arith)) }

pub counts_2 : (low top : ℕ) → top < 16384 → Counts (λ v. v ≤ top) 2 (from low top)
counts_2 low top h = record { reads = λ n s at room. from_alike n s at (omega arith) low top 2 (λ v next z l. z.1 (omega arith)) }

pub counts_spans : {A : Type 0} {P : A → Type 0} {k : ℕ} {R : List ℕ → ℕ → Got A} → Counts P k R → Spans k R
counts_spans h = record { reads = λ n s at room. alike_map (h.reads n s at room) (λ a next w. w.1) }

pub below_1 : (m : ℕ) → m ≤ 128 → Spans 1 (below m)
below_1 m h = record { reads = λ n s at room. below_alike n s at (omega arith) m 1 (λ v next z l. z.2 (omega arith)) }

pub below_2 : (m : ℕ) → m ≤ 16384 → Spans 2 (below m)
below_2 m h = record { reads = λ n s at room. refers n s at (omega arith) m h }

-- readings in a row
module _ {A B : Type 0} where
  pub then_spans : (j k : ℕ) {R : List ℕ → ℕ → Got A} {F : A → List ℕ → ℕ → Got B} → Spans j R → ((a : A) → Spans k (F a)) → Spans (j + k) (λ s at. then (R s at) (λ a. F a s))
  then_spans j k h g = record {
    reads = λ n s at room. alike_then (h.reads n s at (omega arith)) λ a next l. alike_map ((g a).reads n s next (omega arith)) λ b end m. omega arith;
  }

  -- where what was read first bounds what follows
  pub count_spans : (j k : ℕ) {P : A → Type 0} {R : List ℕ → ℕ → Got A} {F : A → List ℕ → ℕ → Got B} → Counts P j R → ((a : A) → P a → Spans k (F a)) →
      Spans (j + k) (λ s at. then (R s at) (λ a. F a s))
  count_spans j k h g = record {
    reads = λ n s at room.
        alike_then (h.reads n s at (omega arith)) λ a next l. alike_map ((g a l.0).reads n s next (omega (arith, l.1, room))) λ b end m. omega (arith, l.1, m);
  }

module _ {A : Type 0} where
  pub got_spans : (a : A) → Spans 0 (λ s. got a)
  got_spans a = record { reads = λ n s at room. give {at = at} (omega arith) }

  pub none_spans : (k e p : ℕ) → Spans {A = A} k (λ s at. no e p)
  none_spans k e p = record { reads = λ n s at room. refuse }

  pub check_spans : (k : ℕ) (t : Bool) (e p : ℕ) {R : List ℕ → ℕ → Got A} → Spans k R → Spans k (λ s at. check t e p (R s at))
  check_spans k t e p h = record { reads = λ n s at room. alike_check t e p λ _. h.reads n s at room }

  -- refusals name the place where the reading begins
  pub here : {k : ℕ} {R : ℕ → List ℕ → ℕ → Got A} → ((o : ℕ) → Spans k (R o)) → Spans k (λ s at. R at s at)
  here h = record { reads = λ n s at room. (h at).reads n s at room }

  pub spans_more : (j k : ℕ) {R : List ℕ → ℕ → Got A} → Spans j R → j ≤ k → Spans k R
  spans_more j k h l = record { reads = λ n s at room. alike_map (h.reads n s at (omega arith)) λ a next m. omega arith }

-- several, each of at most k bytes as long as no more than top were read before it
pub times_spans : {A : Type 0} (k top : ℕ) (R : List ℕ → List A → ℕ → Got A) → ((acc : List A) → length acc < top → Spans k (λ s. R s acc)) →
    (m : ℕ) (acc : List A) → length acc + m ≤ top → Spans (m * k) (λ s. times m (R s) acc)
unfolding times
times_spans k top R one zero acc h = record { reads = λ n s at room. give {at = at} (omega arith) }
times_spans k top R one (suc m) acc h =
    spans_more (k + m * k) (suc m * k)
    (then_spans k (m * k) (one acc (omega arith)) (λ a.
    let more : length (acc ++ (a ∷ [])) ≡ length acc + 1 = length-append acc (a ∷ []) in
    times_spans k top R one m (acc ++ (a ∷ [])) (omega arith)))
    (omega arith)

-- the readers of a record's rest, so many kinds, each of at most k bytes
pub data Readers {A : Type 0} (k : ℕ) : ℕ → (List ℕ → List (ℕ → Got A)) → Type 0 where
  no_more : Readers k 0 (λ s. [])
  and_then : {m : ℕ} {R : List ℕ → ℕ → Got A} {Rs : List ℕ → List (ℕ → Got A)} → Spans k R → Readers k m Rs → Readers k (suc m) (λ s. R s ∷ Rs s)

-- a record: its kind is one byte, and picks the reader of the rest
module _ {A : Type 0} (n : ℕ) (s : List ℕ) (k : ℕ) where
  reader_alike : {m : ℕ} {Rs : List ℕ → List (ℕ → Got A)} → Readers k m Rs → (kind e p at next : ℕ) → (kind < m → next ≤ at + 1) → at + (1 + k) + 2 ≤ n →
      Alike (λ a end. end ≤ at + (1 + k)) (get_or (Rs (take n s)) kind (λ a. no e p) next) (get_or (Rs s) kind (λ a. no e p) next)
  reader_alike no_more kind e p at next l room = refuse
  reader_alike (and_then f rest) zero e p at next l room =
      let near = l (omega arith) in
      alike_map (f.reads n s next (omega (arith, near, room))) λ a end m. omega (arith, near, m)
  reader_alike (and_then f rest) (suc kind) e p at next l room = reader_alike rest kind e p at next (λ low. l (omega arith)) room

pub record_spans : {A : Type 0} (k m : ℕ) {Rs : List ℕ → List (ℕ → Got A)} → m ≤ 128 → Readers k m Rs → Spans (1 + k) (λ s. record_at (Rs s) s)
unfolding record_at
record_spans k m few h = record {
  reads = λ n s at room.
      alike_then (number_alike n s at (omega arith)) λ kind next z. reader_alike n s k h kind out_of_range at at next (λ low. z.2 (omega arith)) room;
}
