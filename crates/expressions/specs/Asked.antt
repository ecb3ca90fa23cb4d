-- What the functions ask: that phrases and patterns are read, that numbers stand for propositions and bindings, and that there is room for what is left of the budget.
use Rattle.std.specs.Prelude.{◌≡◌, List, ℕ, ◌+◌, ◌*◌, ◌≤◌, ◌<◌, length, get_or}
use Rattle.language.specs.Form.{Form}
use Rattle.language.specs.Syntax.{Phrase, Pattern}
use Rattle.language.specs.Values.{Val, Env, with_all, scope}
use Rattle.theorems.specs.Lists.{All}
use Rattle.reader.specs.Stands.{Expr, PhraseRows}
use Rattle.reader.specs.Buffers.{Holds}
use Rattle.bindings.specs.declared.Value.{Value}
use Rattle.bindings.specs.Stands.{Stands, Chain}
use Rattle.patterns.specs.declared.Parts.{Parts}
use Rattle.patterns.specs.Parts.{numbers}
use Rattle.patterns.specs.Fitting.{Legible}
use Rattle.expressions.specs.Machine.{Shared, M, kind}

-- what the buffers that are only read say: phrases and patterns, and the rows that say them
pub record Text : Type 0 where
  pub phrases : List Phrase
  pub patterns : List Pattern
  pub rows : List (List ℕ)
  pub pattern_rows : List (List ℕ)

-- phrase k is an expression
abbrev pub Row : Text → ℕ → Type 0
Row x k = Expr x.rows (length x.rows) k

-- the buffers stand for the text x and the propositions fs
pub record World (x : Text) (fs : List Form) (s : Shared) (m : M) : Type 0 where
  pub legible : Legible m.forms s.patterns m.st.props fs x.patterns x.pattern_rows
  pub says : PhraseRows fs x.patterns x.phrases x.rows
  pub holds : Holds 12 x.rows s.phrases
  pub short : length s.phrases ≤ 16384

-- room for a more propositions and b more bindings, besides four of each for each evaluation that may still begin
pub record Room (m : M) (a b : ℕ) : Type 0 where
  pub forms : m.st.props + 4 * m.st.remaining.0 + a ≤ length m.forms
  pub binds : 4 * (m.st.bindings + 4 * m.st.remaining.0 + b) ≤ length m.binds
  pub small : length m.forms ≤ 16384
  pub short : length m.binds ≤ 16384

-- expression k in the bindings at env
pub record Ready (s : Shared) (m : M) (env k a b : ℕ) : Type 0 where
  pub text : Text
  pub formed : List Form
  pub bound : Env
  pub world : World text formed s m
  pub row : Row text k
  pub chain : Chain text.rows formed m.binds m.st.bindings bound env
  pub room : Room m a b

-- a list of arguments, left of them, whose phrases stand from a place on and whose values go on the chain onto
pub record Arglist (s : Shared) (m : M) (env onto from left : ℕ) : Type 0 where
  pub text : Text
  pub formed : List Form
  pub bound : Env
  pub under : Env
  pub world : World text formed s m
  pub chain : Chain text.rows formed m.binds m.st.bindings bound env
  pub below : Chain text.rows formed m.binds m.st.bindings under onto
  pub room : Room m 1 left
  pub few : left ≤ 4
  pub inside : from + left ≤ length s.phrases
  pub rows : (i : ℕ) → i < left → Row text (get_or s.phrases (from + i) 0)

-- an operator and its n arguments, bound at y
pub record Applicable (s : Shared) (m : M) (v : Value) (y n : ℕ) : Type 0 where
  pub text : Text
  pub formed : List Form
  pub operator : Val
  pub values : List Val
  pub world : World text formed s m
  pub stands : Stands text.rows formed m.binds m.st.bindings operator v
  pub chain : Chain text.rows formed m.binds m.st.bindings (with_all (scope operator) values) y
  pub count : length values ≡ n
  pub room : Room m 1 0

-- a match, and the proposition p that is its first phrase's value
pub record Matching (s : Shared) (m : M) (env k p : ℕ) : Type 0 where
  pub ready : Ready s m env k 4 4
  pub kind : kind s.phrases k ≡ 9
  pub low : p < length ready.formed

-- what a pattern binds, and a chain that it is bound on
pub record Bindable (t : List ℕ) (n env : ℕ) (parts : Parts) : Type 0 where
  pub few : parts.count ≤ 4
  pub low : All (λ p. p < 16384) (numbers parts)
  pub from : env ≤ n
  pub room : 4 * (n + parts.count) ≤ length t
  pub short : length t ≤ 16384
