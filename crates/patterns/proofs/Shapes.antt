-- Shapes: which proposition a word says by its kind and parts, and what a pattern over parts comes to at it.
use Prim.Native.Nat.{ℕ, zero, suc, ◌+◌, ◌≤◌, ◌<◌}
use mathlib.Core.Path.{◌≡◌, refl, sym, ap, ◌∙◌}
use mathlib.Core.Bool.{true, false, decide}
use mathlib.Core.List.{List, [], ◌∷◌}
use mathlib.Core.Option.{none}
use native.Mathlib.Omega.{arith}
use lib.ListN.{get_or}
use Rattle.language.specs.Form.{Conn, conj, disj, cond, bicond, Form, same_conn, Conn-discrete}
use Rattle.language.specs.Syntax.{Pattern, neg_p, bin_p}
use Rattle.language.specs.Numbers.{pick}
use Rattle.language.specs.Patterns.{fits, join_fits}
use Rattle.forms.specs.Word.{kind, left, right, Rec, atom_r, verum_r, falsum_r, neg_r, bin_r, kind_c, code, Below}
use Rattle.forms.specs.Table.{tree, formed}
use Rattle.forms.proofs.Records.{kind_word, left_word, right_word, kind_c_from, kind_c_to}
use Rattle.records.specs.Rows.{pattern_by}

-- the connective of a proposition's kind
pub conn_of : ℕ → Conn
conn_of k = get_or (conj ∷ (conj ∷ (conj ∷ (conj ∷ (conj ∷ (disj ∷ (cond ∷ (bicond ∷ [])))))))) k conj

conn_back : (c : Conn) → conn_of (kind_c c) ≡ c
unfolding conn_of
conn_back conj = refl
conn_back disj = refl
conn_back cond = refl
conn_back bicond = refl

kind_back : (k : ℕ) → 3 ≤ k → k ≤ 6 → kind_c (conn_of (k + 1)) ≡ k + 1
unfolding conn_of
kind_back zero h g = absurd (omega arith)
kind_back (suc zero) h g = absurd (omega arith)
kind_back (suc (suc zero)) h g = absurd (omega arith)
kind_back (suc (suc (suc zero))) h g = refl
kind_back (suc (suc (suc (suc zero)))) h g = refl
kind_back (suc (suc (suc (suc (suc zero))))) h g = refl
kind_back (suc (suc (suc (suc (suc (suc zero)))))) h g = refl
kind_back (suc (suc (suc (suc (suc (suc (suc k))))))) h g = absurd (omega arith)

-- a pattern of kind 3 to 6 joins two by the connective of the next kind
pub joins_by : (k : ℕ) (p : Form) (x y : Pattern) → 3 ≤ k → k ≤ 6 → pattern_by k p x y ≡ bin_p (conn_of (k + 1)) x y
unfolding pattern_by conn_of
joins_by zero p x y h g = absurd (omega arith)
joins_by (suc zero) p x y h g = absurd (omega arith)
joins_by (suc (suc zero)) p x y h g = absurd (omega arith)
joins_by (suc (suc (suc zero))) p x y h g = refl
joins_by (suc (suc (suc (suc zero)))) p x y h g = refl
joins_by (suc (suc (suc (suc (suc zero))))) p x y h g = refl
joins_by (suc (suc (suc (suc (suc (suc zero)))))) p x y h g = refl
joins_by (suc (suc (suc (suc (suc (suc (suc k))))))) p x y h g = absurd (omega arith)

other_conn : (c d : Conn) → (c ≡ d → ⊥) → same_conn c d ≡ false
unfolding same_conn decide
other_conn c d h = go (Conn-discrete c d)
  where
    go : (e : Dec (c ≡ d)) → decide e ≡ false
    go (yes e) = absurd (h e)
    go (no e) = refl

own_conn : (c : Conn) → same_conn c c ≡ true
unfolding same_conn decide
own_conn c = go (Conn-discrete c c)
  where
    go : (e : Dec (c ≡ c)) → decide e ≡ true
    go (yes e) = refl
    go (no e) = absurd (e refl)

-- a record's word, by kind
module _ (n : ℕ) (w : ℕ) (small : n ≤ 16384) where
  pub rec_neg : (y : Rec) → Below n y → w ≡ code y → kind w ≡ 3 → (y ≡ neg_r (left w)) × (left w < n)
  unfolding Below
  rec_neg (atom_r a) l e k = absurd (let z = ap kind e in omega arith)
  rec_neg verum_r l e k = absurd (let z = ap kind e in omega arith)
  rec_neg falsum_r l e k = absurd (let z = ap kind e in omega arith)
  rec_neg (neg_r p) l e k =
      let z : left w ≡ p = ap left e ∙ left_word 3 p 0 (omega arith) (omega arith) in
      (ap neg_r (sym z), rw z l)
  rec_neg (bin_r c p q) l e k = absurd (let z = ap kind e ∙ kind_word (kind_c c) p q (kind_c_to c) in let f = kind_c_from c in omega arith)

  pub rec_bin : (y : Rec) (k : ℕ) → 3 ≤ k → k ≤ 6 → Below n y → w ≡ code y → kind w ≡ k + 1 → (y ≡ bin_r (conn_of (k + 1)) (left w) (right w)) × (left w < n) × (right w < n)
  unfolding Below
  rec_bin (atom_r a) k h g l e i = absurd (let z = ap kind e in omega arith)
  rec_bin verum_r k h g l e i = absurd (let z = ap kind e in omega arith)
  rec_bin falsum_r k h g l e i = absurd (let z = ap kind e in omega arith)
  rec_bin (neg_r p) k h g l e i = absurd (let z = ap kind e ∙ kind_word 3 p 0 (omega arith) in omega arith)
  rec_bin (bin_r c p q) k h g l e i =
      let (lp, lq) = l in
      let z : kind_c c ≡ k + 1 = sym (ap kind e ∙ kind_word (kind_c c) p q (kind_c_to c)) ∙ i in
      let y : c ≡ conn_of (k + 1) = sym (conn_back c) ∙ ap conn_of z in
      let a : left w ≡ p = ap left e ∙ left_word (kind_c c) p q (kind_c_to c) (omega arith) in
      let b : right w ≡ q = ap right e ∙ right_word (kind_c c) p q (kind_c_to c) (omega arith) in
      (rw (a, b, ← y) refl, rw a lp, rw b lq)

-- what a pattern over parts comes to
module _ (fs : List Form) (a b : Pattern) where
  pub neg_other : (y : Rec) → (kind (code y) ≡ 3 → ⊥) → fits (neg_p a) (formed fs y) ≡ none
  unfolding fits formed
  neg_other (atom_r x) h = refl
  neg_other verum_r h = refl
  neg_other falsum_r h = refl
  neg_other (neg_r p) h = absurd (h (kind_word 3 p 0 (omega arith)))
  neg_other (bin_r c p q) h = refl

  pub bin_other : (y : Rec) (k : ℕ) → 3 ≤ k → k ≤ 6 → (kind (code y) ≡ k + 1 → ⊥) → fits (bin_p (conn_of (k + 1)) a b) (formed fs y) ≡ none
  unfolding fits formed pick
  bin_other (atom_r x) k l m h = refl
  bin_other verum_r k l m h = refl
  bin_other falsum_r k l m h = refl
  bin_other (neg_r p) k l m h = refl
  bin_other (bin_r c p q) k l m h =
      rw (other_conn (conn_of (k + 1)) c (λ e. h (kind_word (kind_c c) p q (kind_c_to c) ∙ ap kind_c (sym e) ∙ kind_back k l m)))

  pub neg_same : (p : ℕ) → fits (neg_p a) (formed fs (neg_r p)) ≡ fits a (tree fs p)
  unfolding fits formed
  neg_same p = refl

  pub bin_same : (c : Conn) (p q : ℕ) → fits (bin_p c a b) (formed fs (bin_r c p q)) ≡ join_fits (fits a (tree fs p)) (fits b (tree fs q))
  unfolding fits formed pick
  bin_same c p q = rw (own_conn c)
