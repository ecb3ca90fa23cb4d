-- Laws of a run of stores: what it leaves at its own places, before them and past them, and a run just past the front.
use Prim.Native.Nat.{ℕ, zero, suc, ◌+◌, ◌≤◌, ◌<◌, ◌^◌}
use mathlib.Core.Path.{◌≡◌, refl, sym, ap, ◌∙◌}
use mathlib.Core.List.{List, [], ◌∷◌, ◌++◌, append-nil}
use native.Mathlib.Omega.{arith}
use lib.ListN.{length, get_or, set, take, drop, length-set, length-append}
use native.Mathlib.Numerals.{add-one}
use lib.Seq.{sets, drop-cons, append_snoc, get_or-set_same, get_or-set_other, take-set-le, drop-set-lt, set_out}
use Rattle.words.specs.Cells.{Narrow}
use Rattle.words.specs.Front.{front}
use Rattle.words.proofs.Fronts.{front_snoc}

-- before the run is read what was there
pub before : (vs t : List ℕ) (n j : ℕ) → j < n → get_or (sets t n vs) j 0 ≡ get_or t j 0
before [] t n j h = refl
before (v ∷ vs) t n j h = before vs (set t n v) (suc n) j (omega arith) ∙ get_or-set_other t n j v 0 (λ z. omega arith)

-- at the run's own places is read what was stored
pub within : (vs t : List ℕ) (n i : ℕ) → i < length vs → n + length vs ≤ length t → get_or (sets t n vs) (n + i) 0 ≡ get_or vs i 0
within [] t n i h r = absurd (omega arith)
within (v ∷ vs) t n zero h r =
    let e : n + 0 ≡ n = omega arith in
    rw e (before vs (set t n v) (suc n) n (omega arith) ∙ get_or-set_same t n v 0 (omega arith))
within (v ∷ vs) t n (suc i) h r =
    let e : n + suc i ≡ suc n + i = omega arith in
    let l = length-set t n v in
    rw e (within vs (set t n v) (suc n) i (omega arith) (omega arith))

-- past the run is read what was there
pub past : (vs t : List ℕ) (n j : ℕ) → n + length vs ≤ j → get_or (sets t n vs) j 0 ≡ get_or t j 0
past [] t n j h = refl
past (v ∷ vs) t n j h = past vs (set t n v) (suc n) j (omega arith) ∙ get_or-set_other t n j v 0 (λ z. omega arith)

-- the numbers before the run, and those past it, all together
pub take_before : (vs t : List ℕ) (n m : ℕ) → m ≤ n → take m (sets t n vs) ≡ take m t
take_before [] t n m h = refl
take_before (v ∷ vs) t n m h = take_before vs (set t n v) (suc n) m (omega arith) ∙ take-set-le m t n v h

pub drop_past : (vs t : List ℕ) (n m : ℕ) → n + length vs ≤ m → drop m (sets t n vs) ≡ drop m t
drop_past [] t n m h = refl
drop_past (v ∷ vs) t n m h = drop_past vs (set t n v) (suc n) m (omega arith) ∙ drop-set-lt m t n v (omega arith)

-- a run past the end stores nothing
pub sets_out : (vs t : List ℕ) (n : ℕ) → length t ≤ n → sets t n vs ≡ t
sets_out [] t n h = refl
sets_out (v ∷ vs) t n h = ap (λ (u : List ℕ). sets u (suc n) vs) (set_out t n v h) ∙ sets_out vs t (suc n) (omega arith)

-- two runs, one after the other, are one
pub sets_sets : (us vs t : List ℕ) (n : ℕ) → sets (sets t n us) (n + length us) vs ≡ sets t n (us ++ vs)
sets_sets [] vs t n = let e : n + 0 ≡ n = omega arith in rw e
sets_sets (u ∷ us) vs t n =
    let e : n + suc (length us) ≡ suc n + length us = omega arith in
    rw e (sets_sets us vs (set t n u) (suc n))

-- a run just past the front lengthens it
pub front_run : (vs xs d : List ℕ) → length xs + length vs ≤ length d → sets (front xs d) (length xs) vs ≡ front (xs ++ vs) d
front_run [] xs d h = rw (append-nil xs)
front_run (v ∷ vs) xs d h =
    let us : List ℕ = xs ++ (v ∷ []) in
    let l : length us ≡ suc (length xs) = length-append xs (v ∷ []) ∙ omega arith in
    ap (λ (t : List ℕ). sets t (suc (length xs)) vs) (front_snoc xs d v (omega arith))
    ∙ ap (λ (k : ℕ). sets (front us d) k vs) (sym l)
    ∙ front_run vs us d (omega arith)
    ∙ ap (λ (zs : List ℕ). front zs d) (append_snoc xs v vs)

-- a run at the very front is the front
pub front_sets : (vs d : List ℕ) → length vs ≤ length d → sets d 0 vs ≡ front vs d
front_sets vs d h = front_run vs [] d (omega arith)

-- numbers that all fit a cell do so one by one
pub narrow_at : (vs : List ℕ) (j : ℕ) → Narrow vs → get_or vs j 0 < 2 ^ 32
narrow_at [] j n = omega arith
narrow_at (v ∷ vs) zero n = n.0
narrow_at (v ∷ vs) (suc j) n = narrow_at vs j n.1

-- a run stored number by number: the first j are there, and the rest is to be stored
abbrev pub Storing : List ℕ → ℕ → List ℕ → List ℕ → ℕ → Type 0
Storing t₀ i vs t j = sets t₀ i vs ≡ sets t (i + j) (drop j vs)

pub storing_more : (t₀ t vs : List ℕ) (i j : ℕ) → j < length vs → Storing t₀ i vs t j → Storing t₀ i vs (set t (i + j) (get_or vs j 0)) (j + 1)
storing_more t₀ t vs i j h e =
    let z : suc (i + j) ≡ i + (j + 1) = omega arith in
    let d : drop j vs ≡ get_or vs j 0 ∷ drop (j + 1) vs = rw (drop-cons vs j 0 h, add-one) in
    e ∙ rw d (ap (λ (k : ℕ). sets (set t (i + j) (get_or vs j 0)) k (drop (j + 1) vs)) z)
