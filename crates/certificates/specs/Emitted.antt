-- Bytes at a place of the output, written or only measured.
use Rattle.std.specs.Prelude.{ℕ, zero, suc, ◌+◌, ◌-◌, ◌≤◌, ◌<◌, ◌≡◌, Bool, true, false, List, [], ◌++◌, length, get_or}
use Rattle.std.proofs.lemmas.List.Edits.{sets}
use Rattle.language.specs.Numbers.{groups}
use Rattle.language.specs.Rules.{arity}
use Rattle.forms.specs.Word.{kind, left, right}
use Rattle.certificates.specs.declared.Head.{Head}

-- the output once bytes are written at a place; as it was where they are only measured
abbrev pub laid : Bool → List ℕ → ℕ → List ℕ → List ℕ
laid true out at bytes = sets out at bytes
laid false out at bytes = out

-- what is written must have room; what is measured needs none
abbrev pub Fits : Bool → ℕ → List ℕ → List ℕ → Type 0
Fits true at bytes out = at + length bytes ≤ length out
Fits false at bytes out = Unit {0}

-- bytes written or measured from `at` on, and the place past them
pub record Emitted (writes : Bool) (out₀ : List ℕ) (at : ℕ) (bytes out : List ℕ) (next : ℕ) : Type 0 where
  pub past : next ≡ at + length bytes
  pub output : out ≡ laid writes out₀ at bytes

-- the bytes of the place that the listing t gives the number p
abbrev pub placed : List ℕ → ℕ → List ℕ
placed t p = groups (get_or t p 0 - 1)

-- the number p is listed in t
pub record Placed (t : List ℕ) (p : ℕ) : Type 0 where
  pub there : 0 < get_or t p 0
  pub low : get_or t p 0 ≤ 65536

-- what follows the kind of a record: an atom's number, nothing, or its parts, each as f writes it
unfoldable pub part_bytes : (ℕ → List ℕ) → ℕ → ℕ → List ℕ
part_bytes f zero w = groups (left w)
part_bytes f (suc zero) w = []
part_bytes f (suc (suc zero)) w = []
part_bytes f (suc (suc (suc zero))) w = f (left w)
part_bytes f (suc (suc (suc (suc k)))) w = f (left w) ++ f (right w)

-- the bytes of the record that a word says, its parts by their places in t
unfoldable pub word_bytes : List ℕ → ℕ → List ℕ
unfolding part_bytes
word_bytes t w = groups (kind w) ++ part_bytes (placed t) (kind w) w

-- the parts of a record are listed
pub record PartsPlaced (t : List ℕ) (w : ℕ) : Type 0 where
  pub first : 3 ≤ kind w → Placed t (left w)
  pub second : 4 ≤ kind w → Placed t (right w)

-- how a node begins by its first two tokens: 0 and a rule, whose arguments follow; 1; 2, which one proposition follows
unfoldable pub head_by : ℕ → ℕ → Head
head_by zero r = record { width = 2; names = get_or arity r 0; rules = record { 0 = 1 } }
head_by (suc zero) r = record { width = 1; names = 0; rules = record { 0 = 0 } }
head_by (suc (suc x)) r = record { width = 1; names = 1; rules = record { 0 = 0 } }

-- the bytes of a node's beginning: its kind, and a rule's number
unfoldable pub rule_bytes : ℕ → ℕ → List ℕ
rule_bytes zero r = groups r
rule_bytes (suc x) r = []

unfoldable pub head_bytes : ℕ → ℕ → List ℕ
unfolding rule_bytes
head_bytes x r = groups x ++ rule_bytes x r

-- room for a node's beginning, which is a kind and, of a rule, its number
pub record HeadFits (x y : ℕ) (writes : Bool) (at : ℕ) (out : List ℕ) : Type 0 where
  pub kind : x ≤ 2
  pub rule : x ≡ 0 → y < 16
  pub fits : Fits writes at (head_bytes x y) out
