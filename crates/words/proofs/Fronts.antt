-- Laws of a buffer whose front is in use: storing past the front, reading in it and past it, and taking the front back.
use Prim.Native.Nat.{ℕ, zero, suc, ◌≤◌, ◌<◌}
use mathlib.Core.Path.{◌≡◌, refl, ap}
use mathlib.Core.List.{List, [], ◌∷◌, ◌++◌}
use native.Mathlib.Omega.{arith}
use native.Mathlib.Nat.{le_of_suc-le-suc}
use lib.ListN.{length, get_or, set, take, drop, replicate, get_or-append, length-replicate}
use lib.Seq.{take-append_seam, drop-append_seam, drop-nil}
use Rattle.words.specs.Front.{front}

-- a store just past the front lengthens it
pub front_snoc : (xs d : List ℕ) (v : ℕ) → length xs < length d → set (front xs d) (length xs) v ≡ front (xs ++ (v ∷ [])) d
front_snoc [] [] v h = absurd (omega arith)
front_snoc [] (y ∷ d) v h = refl
front_snoc (x ∷ xs) [] v h = absurd (omega arith)
front_snoc (x ∷ xs) (y ∷ d) v h = ap {B = List ℕ} (λ l. x ∷ l) (front_snoc xs d v (le_of_suc-le-suc h))

-- the same store, where the buffer and the place are known by equations
pub front_put : (xs d t : List ℕ) (i v : ℕ) → t ≡ front xs d → length xs ≡ i → i < length d → set t i v ≡ front (xs ++ (v ∷ [])) d
front_put xs d t i v e l h = rw (e, ← l) (front_snoc xs d v (omega arith))

-- a buffer's own front changes nothing
pub front_own : (n : ℕ) (d : List ℕ) → front (take n d) d ≡ d
front_own zero d = refl
front_own (suc n) [] = refl
front_own (suc n) (x ∷ d) = ap {B = List ℕ} (λ l. x ∷ l) (front_own n d)

-- a front at least as long covers an earlier one
pub front_front : (ys xs d : List ℕ) → length xs ≤ length ys → front ys (front xs d) ≡ front ys d
front_front ys [] d h = refl
front_front [] (x ∷ xs) d h = absurd (omega arith)
front_front (y ∷ ys) (x ∷ xs) [] h =
    let e = front_front ys xs [] (le_of_suc-le-suc h) in
    ap {B = List ℕ} (λ l. y ∷ l) (rw (drop-nil (length xs), drop-nil (length ys)) at e)
front_front (y ∷ ys) (x ∷ xs) (z ∷ d) h = ap {B = List ℕ} (λ l. y ∷ l) (front_front ys xs d (le_of_suc-le-suc h))

-- the front is what was put there
pub take_front : (xs d : List ℕ) → take (length xs) (front xs d) ≡ xs
take_front xs d = take-append_seam xs (drop (length xs) d)

-- what lies past the front is what was there
pub drop_front : (xs d : List ℕ) → drop (length xs) (front xs d) ≡ drop (length xs) d
drop_front xs d = drop-append_seam xs (drop (length xs) d)

-- it keeps the buffer's length
pub length_front : (xs d : List ℕ) → length xs ≤ length d → length (front xs d) ≡ length d
length_front [] d h = refl
length_front (x ∷ xs) [] h = absurd (omega arith)
length_front (x ∷ xs) (y ∷ d) h = ap suc (length_front xs d (le_of_suc-le-suc h))

-- what lies in front is read there
pub get_d_front : (xs d : List ℕ) (i : ℕ) → i < length xs → get_or (front xs d) i 0 ≡ get_or xs i 0
get_d_front xs d i h = get_or-append xs (drop (length xs) d) 0 i h

-- past the front is read what was there
pub get_d_past : (xs d : List ℕ) (i : ℕ) → length xs ≤ i → get_or (front xs d) i 0 ≡ get_or d i 0
get_d_past [] d i h = refl
get_d_past (x ∷ xs) d zero h = absurd (omega arith)
get_d_past (x ∷ xs) [] (suc i) h = rw (drop-nil (length xs)) at (get_d_past xs [] i (le_of_suc-le-suc h))
get_d_past (x ∷ xs) (y ∷ d) (suc i) h = get_d_past xs d i (le_of_suc-le-suc h)

-- wiping over a front leaves what wiping the buffer at first leaves
pub wipe_front : (n : ℕ) (xs d : List ℕ) → length xs ≤ n → replicate n 0 ++ drop n (front xs d) ≡ replicate n 0 ++ drop n d
wipe_front n xs d h =
    let zeros : List ℕ = replicate n 0 in
    let l : length zeros ≡ n = length-replicate n 0 in
    rw l at (front_front zeros xs d (omega arith))
