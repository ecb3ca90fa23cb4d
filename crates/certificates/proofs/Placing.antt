-- Places in the listing of a certificate: all that is named is listed, and so are the parts of what is listed.
use Prim.Native.Nat.{ℕ, ◌+◌, ◌≤◌, ◌<◌}
use mathlib.Core.Path.{◌≡◌, refl, ap, ◌∙◌}
use mathlib.Core.List.{List, [], ◌∷◌, ◌++◌, append-nil}
use native.Mathlib.Omega.{arith}
use lib.ListN.{length, get_or}
use Rattle.language.specs.Form.{Conn, conj, disj, cond, bicond, Form}
use Rattle.language.specs.Numbers.{groups}
use Rattle.language.specs.Run.{Derived}
use Rattle.language.specs.Certificate.{index_of, conn_kind, record_of, listing}
use Rattle.theorems.proofs.Members.{◌∈◌, not_in_nil}
use Rattle.theorems.proofs.Closed.{PartsIn, Closed, closed_snoc}
use Rattle.theorems.proofs.Listing.{found, any_parts, names_map, listing_ind, listing_names}
use Rattle.theorems.proofs.Spelling.{one_group}
use Rattle.forms.specs.Word.{Rec, atom_r, verum_r, falsum_r, neg_r, bin_r, kind_c, code, Below, kind, left, right}
use Rattle.forms.specs.Table.{tree, formed}
use Rattle.forms.proofs.Records.{kind_word, left_word, right_word, kind_c_to}
use Rattle.bindings.specs.Stands.{Is}
use Rattle.certificates.specs.Marks.{mark, Ready}
use Rattle.certificates.specs.Emitted.{placed, Placed, part_bytes, word_bytes, PartsPlaced}
use Rattle.certificates.specs.Told.{Placing}
use Rattle.certificates.proofs.Growing.{mark_there}
use Rattle.certificates.proofs.Marking.{few}

-- the parts of what a certificate lists are listed
pub listing_closed : (d : Derived) → Closed (listing d)
listing_closed d =
    listing_ind (λ p. Unit {0}) any_parts Closed (λ l p c q h new. closed_snoc l p c h) d
    (names_map (λ p. p ∈ listing d) (λ p. Unit {0}) (λ p h. tt) d.proof (listing_names d)) tt (λ p h. absurd (not_in_nil p h))

pub placing : (forms : List ℕ) (n : ℕ) (fs l : List Form) (t : List ℕ) (k : ℕ) → Ready forms n fs l t k → Placing fs l t
placing forms n fs l t k R = record {
  marks = λ j h. R.marked.marks j (omega (arith, R.size));
  few = omega (arith, R.marked.rest, few forms n fs l t k R);
}

-- the place of a number whose proposition is listed
module _ (fs l : List Form) (t : List ℕ) (L : Placing fs l t) (q : ℕ) (P : Form) (is : Is fs q P) (h : P ∈ l) where
  mark_is : get_or t q 0 ≡ index_of P l + 1
  mark_is = L.marks q is.low ∙ ap (λ (f : Form). mark f l) is.tree ∙ mark_there P l h

  pub placed_is : placed t q ≡ groups (index_of P l)
  placed_is = ap groups (omega (arith, mark_is))

  pub is_placed : Placed t q
  is_placed =
      let w : index_of P l < length l = rw (append-nil l) at (found P l [] h).0 in
      record { there = omega (arith, mark_is); low = omega (arith, mark_is, L.few) }

-- the record that a word says is the proposition's
module _ (fs l : List Form) (t : List ℕ) (L : Placing fs l t) where
  kind_first : (w k : ℕ) → kind w ≡ k → k < 128 → word_bytes t w ≡ k ∷ part_bytes (placed t) k w
  unfolding word_bytes
  kind_first w k e h =
      ap (λ (i : ℕ). groups i ++ part_bytes (placed t) i w) e ∙ ap (λ (xs : List ℕ). xs ++ part_bytes (placed t) k w) (one_group k h)

  two_parts : (c : Conn) (w : ℕ) → part_bytes (placed t) (kind_c c) w ≡ placed t (left w) ++ placed t (right w)
  unfolding part_bytes
  two_parts conj w = refl
  two_parts disj w = refl
  two_parts cond w = refl
  two_parts bicond w = refl

  same_kind : (c : Conn) → kind_c c ≡ conn_kind c
  unfolding conn_kind
  same_kind conj = refl
  same_kind disj = refl
  same_kind cond = refl
  same_kind bicond = refl

  module _ (p : ℕ) (low : p < length fs) (small : p ≤ 16384) where
    part_is : (q : ℕ) → q < p → Is fs q (tree fs q)
    part_is q h = record { low = omega (arith, low); tree = refl }

    pub record_is : (x : Rec) → Below p x → PartsIn l (formed fs x) → word_bytes t (code x) ≡ record_of l (formed fs x)
    unfolding Below formed record_of part_bytes
    record_is (atom_r a) b h =
        kind_first (code (atom_r a)) 0 (kind_word 0 a 0 (omega arith)) (omega arith)
        ∙ ap (λ (i : ℕ). 0 ∷ groups i) (left_word 0 a 0 (omega arith) b)
    record_is verum_r b h = kind_first (code verum_r) 1 (omega arith) (omega arith)
    record_is falsum_r b h = kind_first (code falsum_r) 2 (omega arith) (omega arith)
    record_is (neg_r q) b h =
        kind_first (code (neg_r q)) 3 (kind_word 3 q 0 (omega arith)) (omega arith)
        ∙ ap (λ (i : ℕ). 3 ∷ placed t i) (left_word 3 q 0 (omega arith) (omega (arith, b)))
        ∙ ap (λ (xs : List ℕ). 3 ∷ xs) (placed_is fs l t L q (tree fs q) (part_is q b) h)
    record_is (bin_r c q r) b h =
        kind_first (code (bin_r c q r)) (kind_c c) (kind_word (kind_c c) q r (kind_c_to c)) (omega (arith, kind_c_to c))
        ∙ ap (λ (xs : List ℕ). kind_c c ∷ xs) (two_parts c (code (bin_r c q r)))
        ∙ ap (λ (i : ℕ). kind_c c ∷ (placed t i ++ placed t (right (code (bin_r c q r))))) (left_word (kind_c c) q r (kind_c_to c) (omega (arith, b.0)))
        ∙ ap (λ (i : ℕ). kind_c c ∷ (placed t q ++ placed t i)) (right_word (kind_c c) q r (kind_c_to c) (omega (arith, b.0)))
        ∙ ap (λ (i : ℕ). i ∷ (placed t q ++ placed t r)) (same_kind c)
        ∙ ap (λ (xs : List ℕ). conn_kind c ∷ (xs ++ placed t r)) (placed_is fs l t L q (tree fs q) (part_is q b.0) h.0)
        ∙ ap (λ (xs : List ℕ). conn_kind c ∷ (groups (index_of (tree fs q) l) ++ xs)) (placed_is fs l t L r (tree fs r) (part_is r b.1) h.1)

    pub parts_placed : (x : Rec) → Below p x → PartsIn l (formed fs x) → PartsPlaced t (code x)
    unfolding Below formed
    parts_placed (atom_r a) b h = record {
      first = λ k. absurd (omega (arith, k, kind_word 0 a 0 (omega arith)));
      second = λ k. absurd (omega (arith, k, kind_word 0 a 0 (omega arith)));
    }
    parts_placed verum_r b h = record { first = λ k. absurd (omega (arith, k)); second = λ k. absurd (omega (arith, k)) }
    parts_placed falsum_r b h = record { first = λ k. absurd (omega (arith, k)); second = λ k. absurd (omega (arith, k)) }
    parts_placed (neg_r q) b h = record {
      first = λ k. rw (left_word 3 q 0 (omega arith) (omega (arith, b))) (is_placed fs l t L q (tree fs q) (part_is q b) h);
      second = λ k. absurd (omega (arith, k, kind_word 3 q 0 (omega arith)));
    }
    parts_placed (bin_r c q r) b h = record {
      first = λ k. rw (left_word (kind_c c) q r (kind_c_to c) (omega (arith, b.0))) (is_placed fs l t L q (tree fs q) (part_is q b.0) h.0);
      second = λ k. rw (right_word (kind_c c) q r (kind_c_to c) (omega (arith, b.0))) (is_placed fs l t L r (tree fs r) (part_is r b.1) h.1);
    }
