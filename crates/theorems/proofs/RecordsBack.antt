-- A listing's records, and references to what is listed, are read back as the propositions that were written.
use Prim.Native.Nat.{ℕ, ◌+◌, ◌≤◌, ◌<◌}
use native.Mathlib.Omega.{arith}
use mathlib.Core.Path.{◌≡◌, refl, sym, ap, ◌∙◌}
use mathlib.Core.List.{List, [], ◌∷◌, ◌++◌, append_assoc, append-nil}
use lib.ListN.{length, length-append}
use Rattle.language.specs.Form.{Conn, Form, conj, disj, cond, bicond, atom, verum, falsum, neg, bin}
use Rattle.language.specs.Numbers.{got, then, groups, below, times, record_at}
use Rattle.language.specs.Read.{reference, proposition_kinds, proposition}
use Rattle.language.specs.Certificate.{index_of, conn_kind, record_of, records, references}
use Rattle.theorems.specs.Lists.{All}
use Rattle.theorems.proofs.Members.{◌∈◌, in_back, in_head}
use Rattle.theorems.proofs.Closed.{PartsIn, Small}
use Rattle.theorems.proofs.Reading.{got_is, got_then}
use Rattle.theorems.proofs.ReadBack.{Has, has_left, has_right, number_at, byte_at, after_byte, from_number, below_number}
use Rattle.theorems.proofs.Listing.{found, Orderly, done, next}

-- the bytes of a reference
abbrev pub ref : List Form → Form → List ℕ
ref l p = groups (index_of p l)

module _ (s : List ℕ) (l : List Form) (few : length l ≤ 65535) where
  -- a reference to what is listed already: l is what is listed, acc what of it has been read
  module _ (acc more : List Form) (is : l ≡ acc ++ more) (p : Form) (h : p ∈ acc) {at : ℕ} (w : Has s at (ref l p)) where
    pub index_at : below (length acc) s at ≡ got (index_of p l) (at + length (ref l p))
    index_at =
        let i : index_of p l < length acc = rw is (found p acc more h).0 in
        let n : length l ≡ length acc + length more = ap length is ∙ length-append acc more in
        below_number s _ (length acc) i (number_at (index_of p l) (omega arith) w)

    pub reference_at : reference s acc at ≡ got p (at + length (ref l p))
    unfolding reference
    reference_at = got_then _ index_at ∙ got_is (rw is (found p acc more h).1) refl

  -- one record, and all of them
  module _ (small : Small l) where
    module _ (acc more : List Form) (is : l ≡ acc ++ more) where
      two_at : (c : Conn) (p q : Form) {at : ℕ} → p ∈ acc → q ∈ acc → Has s at (ref l p ++ ref l q) →
          then (reference s acc at) (λ p b. then (reference s acc b) (λ q. got (bin c p q))) ≡ got (bin c p q) (at + length (ref l p ++ ref l q))
      two_at c p q h g w =
          got_then _ (reference_at acc more is p h (has_left (ref l p) (ref l q) w))
          ∙ got_then _ (reference_at acc more is q g (has_right (ref l p) (ref l q) w))
          ∙ got_is refl (simp length-append (omega arith))

      proposition_at : (p : Form) {at : ℕ} → p ∈ l → PartsIn acc p → Has s at (record_of l p) →
          proposition s acc at ≡ got p (at + length (record_of l p))
      unfolding proposition proposition_kinds record_at record_of conn_kind
      proposition_at (atom a) m h w =
          got_then _ (byte_at 0 (groups a) (omega arith) w)
          ∙ got_then _ (from_number s _ 0 255 (omega arith) (small a m) (number_at a (omega (arith, small a m)) (after_byte 0 (groups a) w)))
          ∙ got_is refl (omega arith)
      proposition_at verum m h w = got_then _ (byte_at 1 [] (omega arith) w)
      proposition_at falsum m h w = got_then _ (byte_at 2 [] (omega arith) w)
      proposition_at (neg p) m h w =
          got_then _ (byte_at 3 _ (omega arith) w) ∙ got_then _ (reference_at acc more is p h (after_byte 3 _ w)) ∙ got_is refl (omega arith)
      proposition_at (bin conj p q) m h w =
          got_then _ (byte_at 4 _ (omega arith) w) ∙ two_at conj p q h.0 h.1 (after_byte 4 _ w) ∙ got_is refl (omega arith)
      proposition_at (bin disj p q) m h w =
          got_then _ (byte_at 5 _ (omega arith) w) ∙ two_at disj p q h.0 h.1 (after_byte 5 _ w) ∙ got_is refl (omega arith)
      proposition_at (bin cond p q) m h w =
          got_then _ (byte_at 6 _ (omega arith) w) ∙ two_at cond p q h.0 h.1 (after_byte 6 _ w) ∙ got_is refl (omega arith)
      proposition_at (bin bicond p q) m h w =
          got_then _ (byte_at 7 _ (omega arith) w) ∙ two_at bicond p q h.0 h.1 (after_byte 7 _ w) ∙ got_is refl (omega arith)

    pub records_at : {acc ps : List Form} {at : ℕ} → Orderly acc ps → l ≡ acc ++ ps → Has s at (records l ps) →
        times (length ps) (proposition s) acc at ≡ got l (at + length (records l ps))
    unfolding times records
    records_at {acc} done is w = got_is (rw is (sym (append-nil acc))) (omega arith)
    records_at {acc} (next {ps = ps} {p = p} h new o) is w =
        got_then _ (proposition_at acc (p ∷ ps) is p (rw is (in_back p acc (p ∷ ps) (in_head p ps))) h (has_left (record_of l p) (records l ps) w))
        ∙ records_at o (is ∙ simp append_assoc) (has_right (record_of l p) (records l ps) w)
        ∙ got_is refl (simp length-append (omega arith))

  -- references in a row
  pub references_at : (ps read : List Form) {at : ℕ} → All (λ p. p ∈ l) ps → Has s at (references l ps) →
      times (length ps) (λ acc. reference s l) read at ≡ got (read ++ ps) (at + length (references l ps))
  unfolding times references
  references_at [] read h w = got_is (sym (append-nil read)) (omega arith)
  references_at (p ∷ ps) read h w =
      got_then _ (reference_at l [] (sym (append-nil l)) p h.0 (has_left (ref l p) (references l ps) w))
      ∙ references_at ps (read ++ (p ∷ [])) h.1 (has_right (ref l p) (references l ps) w)
      ∙ got_is (append_assoc read (p ∷ []) ps) (simp length-append (omega arith))
