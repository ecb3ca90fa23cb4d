-- A record's word gives back its kind and its parts, and so the record.
use Prim.Native.Nat.{ℕ, ◌≤◌, ◌<◌}
use mathlib.Core.Path.{◌≡◌, refl, sym, ap, ◌∙◌}
use mathlib.Core.List.{[], ◌∷◌}
use native.Mathlib.Omega.{arith}
use lib.ListN.{get_or}
use Rattle.language.specs.Form.{Conn, conj, disj, cond, bicond}
use Rattle.forms.specs.Word.{word, kind, left, right, Rec, atom_r, verum_r, falsum_r, neg_r, bin_r, kind_c, code, Below}

-- the three parts of a word
pub kind_word : (k l r : ℕ) → k < 8 → kind (word k l r) ≡ k
kind_word k l r h = omega arith

pub left_word : (k l r : ℕ) → k < 8 → l < 16384 → left (word k l r) ≡ l
left_word k l r h g = omega arith

pub right_word : (k l r : ℕ) → k < 8 → l < 16384 → right (word k l r) ≡ r
right_word k l r h g = omega arith

pub kind_c_from : (c : Conn) → 4 ≤ kind_c c
kind_c_from conj = omega arith
kind_c_from disj = omega arith
kind_c_from cond = omega arith
kind_c_from bicond = omega arith

pub kind_c_to : (c : Conn) → kind_c c < 8
kind_c_to conj = omega arith
kind_c_to disj = omega arith
kind_c_to cond = omega arith
kind_c_to bicond = omega arith

-- the record of a kind and two parts, and the record that a word says
pub record_of : ℕ → ℕ → ℕ → Rec
record_of k l r = get_or (atom_r l ∷ (verum_r ∷ (falsum_r ∷ (neg_r l ∷ (bin_r conj l r ∷ (bin_r disj l r ∷ (bin_r cond l r ∷ (bin_r bicond l r ∷ [])))))))) k verum_r

pub said : ℕ → Rec
said w = record_of (kind w) (left w) (right w)

said_word : (k l r : ℕ) → k < 8 → l < 16384 → said (word k l r) ≡ record_of k l r
unfolding said
said_word k l r h g = rw (kind_word k l r h, left_word k l r h g, right_word k l r h g)

record_of_bin : (c : Conn) (p q : ℕ) → record_of (kind_c c) p q ≡ bin_r c p q
unfolding record_of
record_of_bin conj p q = refl
record_of_bin disj p q = refl
record_of_bin cond p q = refl
record_of_bin bicond p q = refl

pub said_code : (n : ℕ) (x : Rec) → n ≤ 16384 → Below n x → said (code x) ≡ x
unfolding record_of Below
said_code n (atom_r a) h l = said_word 0 a 0 (omega arith) l
said_code n verum_r h l = said_word 1 0 0 (omega arith) (omega arith)
said_code n falsum_r h l = said_word 2 0 0 (omega arith) (omega arith)
said_code n (neg_r p) h l = said_word 3 p 0 (omega arith) (omega arith)
said_code n (bin_r c p q) h l = said_word (kind_c c) p q (kind_c_to c) (omega arith) ∙ record_of_bin c p q

-- so no two records have one word
pub code_once : (n m : ℕ) (x y : Rec) → n ≤ 16384 → m ≤ 16384 → Below n x → Below m y → code x ≡ code y → x ≡ y
code_once n m x y h g l k e = sym (said_code n x h l) ∙ ap said e ∙ said_code m y g k

pub below_more : (n m : ℕ) (x : Rec) → n ≤ m → Below n x → Below m x
unfolding Below
below_more n m (atom_r a) h l = l
below_more n m verum_r h l = tt
below_more n m falsum_r h l = tt
below_more n m (neg_r p) h l = omega arith
below_more n m (bin_r c p q) h l = omega arith
