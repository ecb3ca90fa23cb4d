-- Pairs of digits read one after another: what is decoded from the start is what is decoded from here, and what was read stands at the front.
use Rattle.std.proofs.Common.{◌≡◌, ℕ, suc, ◌+◌, ◌-◌, ◌*◌, ◌/◌, ◌%◌, ◌<◌, ◌≤◌, List, [], ◌∷◌, ◌++◌, Bool, true, false, length, get_or, set, ltb, eqb, Option, Some, None, refl, sym, ap, ◌∙◌, arith, length-append}
use borrow.Author.Tests.{lt-ltb, le-ltb, ltb-true}
use Rattle.words.specs.Front.{front}
use Rattle.words.proofs.Fronts.{front_put}
use Rattle.requests.specs.Fields.{pick, pair_at, decoded, decoding, field, told, Reads}

-- i of n pairs are read
pub record At (line : List ℕ) (from n : ℕ) (t₀ t : List ℕ) (i : ℕ) : Type 0 where
  pub done : List ℕ
  pub long : length done ≡ i
  pub same : decoding line (length t₀) n from [] ≡ decoding line (length t₀) (n - i) (from + 2 * i) done
  pub filled : t ≡ front done t₀

module _ (line : List ℕ) (from n : ℕ) (t₀ : List ℕ) where
  pub at_start : At line from n t₀ t₀ 0
  at_start = record { done = []; long = refl; same = let a : n - 0 ≡ n = omega arith in let b : from + 2 * 0 ≡ from = omega arith in rw (a, b); filled = refl }

  module _ (t : List ℕ) (i : ℕ) (h : At line from n t₀ t i) where
    step : i < n → decoding line (length t₀) n from [] ≡
        decoded (decoding line (length t₀) (n - (i + 1)) (from + 2 * (i + 1))) h.done (pair_at line (from + 2 * i)) (ltb (length h.done) (length t₀))
    unfolding decoding
    step l =
        let z : n - i ≡ suc (n - (i + 1)) = omega arith in
        let k : from + 2 * (i + 1) ≡ from + 2 * i + 2 = omega arith in
        h.same ∙ rw (z, k)

    pub at_no_digit : i < n → None ≡ pair_at line (from + 2 * i) → Reads (decoding line (length t₀) n from []) None t₀ t
    at_no_digit l e = rw (step l, ← e) (record { answer = refl; bytes = h.filled })

    pub at_full : (b : ℕ) → i < n → Some b ≡ pair_at line (from + 2 * i) → length t₀ ≤ i → Reads (decoding line (length t₀) n from []) None t₀ t
    at_full b l e g = let m = h.long in rw (step l, ← e, le-ltb (length h.done) (length t₀) (omega arith)) (record { answer = refl; bytes = h.filled })

    pub at_byte : (b : ℕ) → i < n → Some b ≡ pair_at line (from + 2 * i) → i < length t₀ → At line from n t₀ (set t i b) (i + 1)
    at_byte b l e r =
        let m = h.long in
        record {
          done = h.done ++ (b ∷ []);
          long = length-append h.done (b ∷ []) ∙ omega arith;
          same = step l ∙ rw (← e, lt-ltb (length h.done) (length t₀) (omega arith));
          filled = front_put h.done t₀ t i b h.filled m r;
        }

    pub at_end : i ≡ n → Reads (decoding line (length t₀) n from []) (Some n) t₀ t
    unfolding decoding
    at_end e =
        let z : n - i ≡ 0 = omega arith in
        rw (h.same, z) (record { answer = ap Some (sym e ∙ sym h.long); bytes = h.filled })

-- what is read fits the buffer
decoding_fits : (line : List ℕ) (room n at : ℕ) (done : List ℕ) → length done ≤ room → length (decoding line room n at done).bytes ≤ room
unfolding decoding
decoding_fits line room ℕ.zero at done h = h
decoding_fits line room (ℕ.suc n) at done h =
    go (pair_at line at) (ltb (length done) room) refl (λ b. decoding_fits line room n (at + 2) (done ++ (b ∷ [])))
  where
    go : (o : Option ℕ) (test : Bool) → ltb (length done) room ≡ test →
        ((b : ℕ) → length (done ++ (b ∷ [])) ≤ room → length (decoding line room n (at + 2) (done ++ (b ∷ []))).bytes ≤ room) →
        length (decoded (decoding line room n (at + 2)) done o test).bytes ≤ room
    go None test e rest = h
    go (Some b) false e rest = h
    go (Some b) true e rest = let l = ltb-true (length done) room e in let z = length-append done (b ∷ []) in rest b (omega arith)

field_fits : (line : List ℕ) (room from to : ℕ) → length (field line room from to).bytes ≤ room
unfolding field
field_fits line room from to = go (ltb from to) (eqb (to - from) 1) (eqb (get_or line from 0) 45) (eqb ((to - from) % 2) 0)
  where
    go : (a b c d : Bool) →
        length (pick a (pick b (pick c (record { bytes = []; whole = true }) (record { bytes = []; whole = false }))
        (pick d (decoding line room ((to - from) / 2) from []) (record { bytes = []; whole = false }))) (record { bytes = []; whole = false })).bytes ≤ room
    go true true true d = omega arith
    go true true false d = omega arith
    go true false c true = decoding_fits line room ((to - from) / 2) from [] (omega arith)
    go true false c false = omega arith
    go false b c d = omega arith

told_few : (n m : ℕ) (w : Bool) → Some n ≡ told m w → n ≡ m
told_few n m true e = cc
told_few n m false e = cc

pub bytes_fit : (line : List ℕ) (room from to n : ℕ) (r : Option ℕ) {t₀ t : List ℕ} → Reads (field line room from to) r t₀ t → r ≡ Some n → n ≤ room
bytes_fit line room from to n r x e =
    let d = field line room from to in
    let z = told_few n (length d.bytes) d.whole (sym e ∙ x.answer) in
    let l = field_fits line room from to in
    omega arith
