-- What trying a pattern and choosing a clause come to: what the language's `fits` and `choose` give at the trees that the numbers stand for.
use Rattle.std.specs.Prelude.{ℕ, ◌+◌, ◌*◌, ◌≤◌, ◌<◌, ◌≡◌, Bool, true, false, List, map, length, get_or, take, drop, eqb, Option, Some, None}
use Rattle.std.proofs.Math.Option.{Option as Maybe, some, none}
use Rattle.language.specs.Form.{Form}
use Rattle.language.specs.Syntax.{Pattern, any}
use Rattle.language.specs.Read.{binders}
use Rattle.language.specs.Patterns.{fits, Choice as ChosenClause, chosen, unfit, choose}
use Rattle.forms.specs.Table.{tree, Table}
use Rattle.records.specs.Rows.{cell, clauses_of}
use Rattle.theorems.specs.Lists.{All}
use Rattle.reader.specs.Stands.{PatternRows}
use Rattle.reader.specs.Buffers.{Holds}
use Rattle.patterns.specs.declared.Parts.{Parts}
use Rattle.patterns.specs.Parts.{none_bound, extend}

-- the first n words of the table stand for the trees fs, and the patterns' rows say the patterns qs
pub record Legible (forms patterns : List ℕ) (n : ℕ) (fs : List Form) (qs : List Pattern) (rows : List (List ℕ)) : Type 0 where
  pub table : Table (take n forms) fs
  pub says : PatternRows fs qs rows
  pub holds : Holds 5 rows patterns
  pub short : length patterns ≤ 16384

-- the numbers name the propositions
pub record Named (fs : List Form) (ns : List ℕ) (ps : List Form) : Type 0 where
  pub trees : map (tree fs) ns ≡ ps
  pub low : All (λ p. p < length fs) ns

-- a pattern and a proposition, and room for what it binds after what was bound before
pub record Tried (forms patterns : List ℕ) (q p : ℕ) (before : Parts) : Type 0 where
  pub words : ℕ
  pub trees : List Form
  pub qs : List Pattern
  pub rows : List (List ℕ)
  pub legible : Legible forms patterns words trees qs rows
  pub pattern : q < length rows
  pub proposition : p < length trees
  pub room : before.count + cell rows q 3 ≤ 4

-- the answer for a pattern a, and what `fits` gives: what is bound names the propositions that `fits` binds
unfoldable pub Fitted : List Form → Pattern → Parts → Option Parts → Maybe (List Form) → Type 0
unfolding extend binders
Fitted fs a b (Some c) (some ps) = (ns : List ℕ) × (c ≡ extend b ns) × Named fs ns ps × (length ns ≡ binders a)
Fitted fs a b (Some c) none = ⊥
Fitted fs a b None (some ps) = ⊥
Fitted fs a b None none = Unit {0}

pub record FitsSo (forms patterns : List ℕ) (q p : ℕ) (before : Parts) (r : Option Parts) : Type 0 where
  pub meets : (x : Tried forms patterns q p before) →
      Fitted x.trees (get_or x.qs q any) before r (fits (get_or x.qs q any) (tree x.trees p))

-- the answer of a test that leaves the parts c
abbrev pub told : Bool → Parts → Option Parts
told true c = Some c
told false c = None

-- exactly the proposition q, by number
abbrev pub exactly_so : ℕ → ℕ → Parts → Option Parts
exactly_so q p b = told (eqb q p) b

-- clauses from a place on, and a proposition
pub record Offered (forms patterns phrases : List ℕ) (from left p : ℕ) : Type 0 where
  pub words : ℕ
  pub trees : List Form
  pub qs : List Pattern
  pub rows : List (List ℕ)
  pub legible : Legible forms patterns words trees qs rows
  pub proposition : p < length trees
  pub named : (i : ℕ) → i < left → get_or phrases (from + 2 * i) 0 < length rows
  pub inside : from + 2 * left ≤ length phrases
  pub short : length phrases ≤ 16384

-- the clause that is chosen, and what `choose` gives
unfoldable pub Picked : List Form → Option (ℕ × Parts) → ChosenClause → Type 0
unfolding extend
Picked fs (Some (k, c)) (chosen b ps) = (k ≡ b) × ((ns : List ℕ) × (c ≡ extend none_bound ns) × Named fs ns ps × (length ns ≤ 4))
Picked fs (Some (k, c)) unfit = ⊥
Picked fs None (chosen b ps) = ⊥
Picked fs None unfit = Unit {0}

pub record ChosenSo (forms patterns phrases : List ℕ) (from left p : ℕ) (r : Option (ℕ × Parts)) : Type 0 where
  pub meets : (x : Offered forms patterns phrases from left p) →
      Picked x.trees r (choose (clauses_of x.qs left (drop from phrases)) (tree x.trees p))
