-- Bytes written in hexadecimal one after another: what is written stands at the front.
use Rattle.std.proofs.Common.{◌≡◌, ℕ, ◌+◌, ◌*◌, ◌/◌, ◌%◌, ◌<◌, ◌≤◌, List, [], ◌∷◌, ◌++◌, length, get_or, set, take, refl, ap, ◌∙◌, arith, add-one, length-append}
use lib.Seq.{take-suc, length-take-le}
use Rattle.words.specs.Front.{front}
use Rattle.words.proofs.Fronts.{front_put}
use Rattle.requests.specs.Writing.{digit_of, hex_of}

hex_more : (xs : List ℕ) (b : ℕ) → hex_of (xs ++ (b ∷ [])) ≡ (hex_of xs ++ (digit_of (b / 16) ∷ [])) ++ (digit_of (b % 16) ∷ [])
hex_more [] b = refl
hex_more (x ∷ xs) b = ap (λ (l : List ℕ). digit_of (x / 16) ∷ (digit_of (x % 16) ∷ l)) (hex_more xs b)

hex_long : (xs : List ℕ) → length (hex_of xs) ≡ 2 * length xs
hex_long [] = refl
hex_long (x ∷ xs) = let h = hex_long xs in omega arith

pub hex_put : (s t₀ t : List ℕ) (i : ℕ) → t ≡ front (hex_of (take i s)) t₀ → i < length s → 2 * length s ≤ length t₀ →
    set (set t (2 * i) (digit_of (get_or s i 0 / 16))) (2 * i + 1) (digit_of (get_or s i 0 % 16)) ≡ front (hex_of (take (i + 1) s)) t₀
hex_put s t₀ t i e l room =
    let done = hex_of (take i s) in
    let h = digit_of (get_or s i 0 / 16) in
    let n : length (take i s) ≡ i = length-take-le i s (omega arith) in
    let long : length done ≡ 2 * i = hex_long (take i s) ∙ omega arith in
    let once = front_put done t₀ t (2 * i) h e long (omega arith) in
    let twice = front_put (done ++ (h ∷ [])) t₀ (set t (2 * i) h) (2 * i + 1) (digit_of (get_or s i 0 % 16)) once (length-append done (h ∷ []) ∙ omega arith) (omega arith) in
    twice ∙ rw (← hex_more, add-one i, ← take-suc s i 0 l)
