-- What a proof's second reading asks and answers, by the definition's own reading of it.
use Rattle.std.specs.Prelude.{ℕ, ◌+◌, ◌<◌, ◌≤◌, ◌≡◌, List, ◌++◌, length, get_or, take, Result, Ok, Err}
use Rattle.language.specs.Refusals.{out_of_range}
use Rattle.language.specs.Form.{Form, verum}
use Rattle.language.specs.Numbers.{Got, got, no, then}
use Rattle.language.specs.Read.{reference}
use Rattle.language.specs.Check.{seq_n, under_n, Counted, ReadNode, rule_node, inner, node, concluded}
use Rattle.forms.specs.Table.{tree, Table}
use Rattle.rules.specs.Base.{base_of}
use Rattle.language.specs.Numbered.{number_of}
use Rattle.language.specs.declared.refusal.Refusal.{Refusal}
use Rattle.checker.specs.declared.walking.Walked.{Walked}
use Rattle.checker.specs.declared.walking.Walk.{Walk}

-- reading a node, or its rest, over a listing and after so many nodes
abbrev pub Reading : Type 0
Reading = List Form → ℕ → Got Counted

-- the node at a place, with so much nesting left
abbrev pub node_at : ℕ → List ℕ → ℕ → Reading
node_at d s at ps used = node d s ps used at

-- what follows the kind of the node at `at`; R reads a node inside
abbrev pub rest_by : ReadNode → List ℕ → List Form → ℕ → ℕ → ℕ → ℕ → Got Counted
rest_by R s ps used at kind a = get_or (inner R s ps used at) kind (λ u b. no out_of_range at) used a

-- the rest of the rule node at `at`, whose kind ends before `a`
abbrev pub rule_at : List ℕ → ℕ → ℕ → Reading
rule_at s at a ps used = rule_node s ps used at a

-- the two proofs of a sequence
unfoldable pub two_at : ℕ → List ℕ → ℕ → Reading
unfolding then node
two_at d s a ps used =
    then (node d s ps (used + 1) a) (λ x b. then (node d s ps x.nodes b)
    (λ y. got (record { node = seq_n x.node y.node; nodes = y.nodes })))

-- a hypothesis and the proof under it
unfoldable pub under_at : ℕ → List ℕ → ℕ → Reading
unfolding then node reference
under_at d s a ps used =
    then (reference s ps a) (λ p b. then (node d s ps (used + 1) b)
    (λ x. got (record { node = under_n p x.node; nodes = x.nodes })))

-- the first n words stand for the trees fs, the names for the listing ps, the base's numbers for some of the trees;
-- and the base can grow by so many
pub record Setting (t base names : List ℕ) (n b deep : ℕ) (fs ps : List Form) : Type 0 where
  pub table : Table (take n t) fs
  pub named : (j : ℕ) → j < length ps → (get_or names j 0 < n) × (tree fs (get_or names j 0) ≡ get_or ps j verum)
  pub based : (j : ℕ) → j < b → get_or base j 0 < n
  pub stack : b + deep ≤ length base

-- the nodes after `used` have room for a word each
pub record Room (t : List ℕ) (n used nodes : ℕ) : Type 0 where
  pub long : n + nodes ≤ used + length t
  pub small : n + nodes ≤ used + 16384

-- what is to be walked was read without refusal, over some listing
pub record Awaits (read : Reading) (t base names : List ℕ) (n b deep : ℕ) : Type 0 where
  pub trees : List Form
  pub listing : List Form
  pub setting : Setting t base names n b deep trees listing
  pub used : ℕ
  pub counted : Counted
  pub next : ℕ
  pub was_read : read listing used ≡ got counted next
  pub room : Room t n used counted.nodes

-- the number p stands for the conclusion q, among k words that stand for the old trees and more, at most one for each node
pub record Derived (t : List ℕ) (fs : List Form) (n used nodes p k : ℕ) (q : Form) : Type 0 where
  pub more : List Form
  pub table : Table (take k t) (fs ++ more)
  pub low : p < k
  pub is : tree (fs ++ more) p ≡ q
  pub paid : k + used ≤ n + nodes

-- the conclusion's number, the place past the node and the count of words in use
pub record Reached : Type 0 where
  pub conclusion : ℕ
  pub next : ℕ
  pub size : ℕ

-- what a walk answers, with the count of words that it leaves in use
abbrev pub reached : ℕ → Result Walked Refusal → Result Reached Refusal
reached k (Ok w) = Ok (record { conclusion = w.conclusion; next = w.next; size = k })
reached k (Err r) = Err r

-- a walk that ends at `next` answers what the definition concludes
abbrev pub Meets : List ℕ → List Form → ℕ → ℕ → ℕ → ℕ → Result Reached Refusal → Got Form → Type 0
Meets t fs n used nodes next (Ok w) (got q at) = (w.next ≡ next) × Derived t fs n used nodes w.conclusion w.size q
Meets t fs n used nodes next (Ok w) (no why place) = ⊥
Meets t fs n used nodes next (Err r) (got q at) = ⊥
Meets t fs n used nodes next (Err r) (no why place) = (number_of r.0 ≡ why) × (r.1 ≡ place)

-- the base below is kept; and whatever was read is answered as the definition concludes it
pub record Walks (read : Reading) (t₀ base₀ names : List ℕ) (n b deep : ℕ) (t base : List ℕ) (r : Result Reached Refusal) : Type 0 where
  pub kept : take b base ≡ take b base₀
  pub meets : (fs ps : List Form) → Setting t₀ base₀ names n b deep fs ps →
      (used : ℕ) (c : Counted) (next : ℕ) → read ps used ≡ got c next → Room t₀ n used c.nodes →
      Meets t fs n used c.nodes next r (concluded (base_of fs base₀ b) c.node)

-- both go over the same lent buffers, which are as long as they were, and read the same bytes and names
pub record Same (x y : Walk) : Type 0 where
  pub forms : y.forms.ghost_name ≡ x.forms.ghost_name
  pub base : y.base.ghost_name ≡ x.base.ghost_name
  pub certificate : y.certificate ≡ x.certificate
  pub names : y.names ≡ x.names
  pub forms_long : length y.forms.now ≡ length x.forms.now
  pub base_long : length y.base.now ≡ length x.base.now
