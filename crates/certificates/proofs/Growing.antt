-- The language's `listed`, opened: what is listed stays, what is not goes behind its parts.
use Prim.Native.Nat.{ℕ, suc, ◌+◌, ◌≤◌, ◌<◌}
use mathlib.Core.Path.{◌≡◌, refl}
use mathlib.Core.Bool.{Bool, true, false, ◌||◌}
use mathlib.Core.List.{List, [], ◌∷◌, ◌++◌}
use native.Mathlib.Omega.{arith}
use native.Mathlib.Numerals.{add-one}
use lib.ListN.{length}
use Rattle.language.specs.Form.{Form, atom, verum, falsum, neg, bin, same, member}
use Rattle.language.specs.Numbers.{pick}
use Rattle.language.specs.Certificate.{listed, index_of}
use Rattle.theorems.proofs.Members.{member_append}
use Rattle.theorems.proofs.Listing.{size, listed_fresh}
use Rattle.forms.specs.Word.{Rec, atom_r, verum_r, falsum_r, neg_r, bin_r, kind_c, code, Below, kind, left, right}
use Rattle.forms.specs.Table.{tree, formed}
use Rattle.forms.proofs.Records.{kind_word, left_word, right_word, kind_c_from, kind_c_to}
use Rattle.certificates.specs.Marks.{mark}

-- the listing once a proposition's parts are in it
unfoldable pub behind : Form → List Form → List Form
behind (atom a) l = l
behind verum l = l
behind falsum l = l
behind (neg p) l = listed p l
behind (bin c p q) l = listed q (listed p l)

pub listed_old : (p : Form) (l : List Form) → member p l ≡ true → listed p l ≡ l
unfolding listed pick
listed_old (atom a) l h = rw h
listed_old verum l h = rw h
listed_old falsum l h = rw h
listed_old (neg p) l h = rw h
listed_old (bin c p q) l h = rw h

pub listed_new : (p : Form) (l : List Form) → member p l ≡ false → listed p l ≡ behind p l ++ (p ∷ [])
unfolding listed pick behind
listed_new (atom a) l h = rw h
listed_new verum l h = rw h
listed_new falsum l h = rw h
listed_new (neg p) l h = rw h
listed_new (bin c p q) l h = rw h

-- so a proposition that is not listed is not behind its parts either
pub behind_fresh : (p : Form) (l : List Form) → member p l ≡ false → member p (behind p l) ≡ false
unfolding behind size
behind_fresh (atom a) l h = h
behind_fresh verum l h = h
behind_fresh falsum l h = h
behind_fresh (neg p) l h = listed_fresh (neg p) p l (omega arith) h
behind_fresh (bin c p q) l h =
    listed_fresh (bin c p q) q (listed p l) (omega arith) (listed_fresh (bin c p q) p l (omega arith) h)

-- marks: 0 where a proposition is not listed
module _ (p : Form) (l : List Form) where
  pub mark_some : 0 < mark p l → member p l ≡ true
  unfolding mark pick
  mark_some = go (member p l)
    where
      go : (b : Bool) → 0 < pick b (index_of p l + 1) 0 → b ≡ true
      go true h = refl
      go false h = absurd (omega arith)

  pub mark_none : mark p l ≤ 0 → member p l ≡ false
  unfolding mark pick
  mark_none = go (member p l)
    where
      go : (b : Bool) → pick b (index_of p l + 1) 0 ≤ 0 → b ≡ false
      go true h = absurd (omega arith)
      go false h = refl

  pub mark_there : member p l ≡ true → mark p l ≡ index_of p l + 1
  unfolding mark pick
  mark_there h = rw h

  pub mark_zero : member p l ≡ false → mark p l ≡ 0
  unfolding mark pick
  mark_zero h = rw h

-- a place in a listing stays when the listing goes on; what is new stands last
module _ (p q : Form) where
  index_keeps : (l : List Form) → member p l ≡ true → index_of p (l ++ (q ∷ [])) ≡ index_of p l
  unfolding index_of member pick
  index_keeps [] h = let z : ◌≡◌ {A = Bool} false true = h in absurd (clash z)
    where
      clash : ◌≡◌ {A = Bool} false true → ⊥
      clash e = let z : ◌≡◌ {A = ℕ} 0 1 = cc in omega arith
  index_keeps (x ∷ l) h = go (same p x) h (index_keeps l)
    where
      go : (b : Bool) → (b || member p l) ≡ true → (member p l ≡ true → index_of p (l ++ (q ∷ [])) ≡ index_of p l) → pick b 0 (index_of p (l ++ (q ∷ [])) + 1) ≡ pick b 0 (index_of p l + 1)
      go true h ih = refl
      go false h ih = rw (ih h)

  index_last : (l : List Form) → member p l ≡ false → same p q ≡ true → index_of p (l ++ (q ∷ [])) ≡ length l
  unfolding index_of member pick
  index_last [] h s = rw s
  index_last (x ∷ l) h s = go (same p x) h (index_last l)
    where
      go : (b : Bool) → (b || member p l) ≡ false → (member p l ≡ false → same p q ≡ true → index_of p (l ++ (q ∷ [])) ≡ length l) → pick b 0 (index_of p (l ++ (q ∷ [])) + 1) ≡ suc (length l)
      go true h ih = let z : ◌≡◌ {A = ℕ} 0 1 = cc in absurd (omega arith)
      go false h ih = rw (ih h s) (add-one (length l))

  member_snoc : (l : List Form) → member p (l ++ (q ∷ [])) ≡ (member p l || (same p q || false))
  unfolding member
  member_snoc l = member_append p l (q ∷ [])

  -- the marks of a listing that has grown by q
  pub mark_new : (l : List Form) → member p l ≡ false → same p q ≡ true → mark p (l ++ (q ∷ [])) ≡ length l + 1
  unfolding mark pick
  mark_new l h s = rw (member_snoc l, h, s, index_last l h s)

  pub mark_kept : (l : List Form) → same p q ≡ false → mark p (l ++ (q ∷ [])) ≡ mark p l
  unfolding mark pick
  mark_kept l s = go (member p l) refl
    where
      go : (b : Bool) → member p l ≡ b → mark p (l ++ (q ∷ [])) ≡ mark p l
      go true h = rw (member_snoc l, h, index_keeps l h)
      go false h = rw (member_snoc l, h, s)

-- a record's parts, by its kind: earlier in the table, and behind them it is listed
module _ (fs : List Form) (p : ℕ) (small : p ≤ 16384) where
  pub behind_none : (x : Rec) → kind (code x) < 3 → (l : List Form) → behind (formed fs x) l ≡ l
  unfolding behind formed
  behind_none (atom_r a) h l = refl
  behind_none verum_r h l = refl
  behind_none falsum_r h l = refl
  behind_none (neg_r q) h l = absurd (omega (arith, kind_word 3 q 0 (omega arith)))
  behind_none (bin_r c q r) h l = absurd (omega (arith, kind_word (kind_c c) q r (kind_c_to c), kind_c_from c))

  pub first_low : (x : Rec) → Below p x → 3 ≤ kind (code x) → left (code x) < p
  unfolding Below
  first_low (atom_r a) b h = absurd (omega (arith, kind_word 0 a 0 (omega arith)))
  first_low verum_r b h = absurd (omega arith)
  first_low falsum_r b h = absurd (omega arith)
  first_low (neg_r q) b h = rw (left_word 3 q 0 (omega arith) (omega arith)) b
  first_low (bin_r c q r) b h = rw (left_word (kind_c c) q r (kind_c_to c) (omega arith)) b.0

  pub second_low : (x : Rec) → Below p x → 3 ≤ kind (code x) → (kind (code x) ≡ 3 → ⊥) → right (code x) < p
  unfolding Below
  second_low (atom_r a) b h n = absurd (omega (arith, kind_word 0 a 0 (omega arith)))
  second_low verum_r b h n = absurd (omega arith)
  second_low falsum_r b h n = absurd (omega arith)
  second_low (neg_r q) b h n = absurd (n (kind_word 3 q 0 (omega arith)))
  second_low (bin_r c q r) b h n = rw (right_word (kind_c c) q r (kind_c_to c) (omega arith)) b.1

  pub behind_one : (x : Rec) → Below p x → kind (code x) ≡ 3 → (l : List Form) → behind (formed fs x) l ≡ listed (tree fs (left (code x))) l
  unfolding behind formed Below
  behind_one (atom_r a) b e l = absurd (omega (arith, kind_word 0 a 0 (omega arith)))
  behind_one verum_r b e l = absurd (omega arith)
  behind_one falsum_r b e l = absurd (omega arith)
  behind_one (neg_r q) b e l = rw (left_word 3 q 0 (omega arith) (omega arith))
  behind_one (bin_r c q r) b e l = absurd (omega (arith, kind_word (kind_c c) q r (kind_c_to c), kind_c_from c))

  pub behind_two : (x : Rec) → Below p x → 3 ≤ kind (code x) → (kind (code x) ≡ 3 → ⊥) → (l : List Form) →
      behind (formed fs x) l ≡ listed (tree fs (right (code x))) (listed (tree fs (left (code x))) l)
  unfolding behind formed Below
  behind_two (atom_r a) b h n l = absurd (omega (arith, kind_word 0 a 0 (omega arith)))
  behind_two verum_r b h n l = absurd (omega arith)
  behind_two falsum_r b h n l = absurd (omega arith)
  behind_two (neg_r q) b h n l = absurd (n (kind_word 3 q 0 (omega arith)))
  behind_two (bin_r c q r) b h n l = rw (left_word (kind_c c) q r (kind_c_to c) (omega arith), right_word (kind_c c) q r (kind_c_to c) (omega arith))
