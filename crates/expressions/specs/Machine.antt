-- The state of a run as one value, answers with what they leave, and what the smallest functions give.
use Rattle.std.specs.Prelude.{◌≡◌, List, [], ◌∷◌, ℕ, zero, suc, ◌+◌, ◌*◌, ◌-◌, length, get_or, Option, Some, None, Result, Ok, Err, ok_or}
use Rattle.std.proofs.lemmas.List.Edits.{sets}
use Rattle.language.specs.Numbered.{number_of}
use Rattle.language.specs.declared.refusal.Refusal.{Refusal}
use Rattle.language.specs.declared.refusal.Why.TheVariants.{NoBinding}
use Rattle.forms.specs.Word.{word}
use Rattle.forms.specs.Interned.{Interned}
use Rattle.forms.specs.declared.Formed.{Formed}
use Rattle.records.specs.Rows.{sort_of}
use Rattle.bindings.specs.declared.Value.{Value}
use Rattle.bindings.specs.declared.Value.TheVariants.{Prop, Constructor, Rule, Function, Method}
use Rattle.bindings.specs.Numbers.{closure_of, numbers_of}
use Rattle.bindings.specs.Stands.{closed}
use Rattle.expressions.specs.declared.State.{State}
use Rattle.expressions.specs.declared.Machine.{Machine}

-- the buffers that are only read: phrases and patterns
pub record Shared : Type 0 where
  pub phrases : List ℕ
  pub patterns : List ℕ

abbrev pub shared : List ℕ → List ℕ → Shared
shared ph pt = record { phrases = ph; patterns = pt }

-- the two buffers that change, and the counters
pub record M : Type 0 where
  pub forms : List ℕ
  pub binds : List ℕ
  pub st : State

abbrev pub mk : List ℕ → List ℕ → State → M
mk f b st = record { forms = f; binds = b; st = st }

abbrev pub counters : ℕ → ℕ → ℕ → State
counters p b r = record { props = p; bindings = b; remaining = record { 0 = r } }

-- one unit of the budget spent
abbrev pub spent : M → M
spent m = mk m.forms m.binds (counters m.st.props m.st.bindings (m.st.remaining.0 - 1))

-- what a machine only reads
abbrev pub reads : Machine → Shared
reads x = shared x.phrases.now x.patterns.now

-- what it changes
abbrev pub machine : Machine → M
machine x = mk x.forms.now x.binds.now x.state

-- both go over the same lent buffers, which are as long as they were, and read the same phrases and patterns
pub record Same (x y : Machine) : Type 0 where
  pub forms : y.forms.ghost_name ≡ x.forms.ghost_name
  pub binds : y.binds.ghost_name ≡ x.binds.ghost_name
  pub phrases : y.phrases ≡ x.phrases
  pub patterns : y.patterns ≡ x.patterns
  pub forms_long : length y.forms.now ≡ length x.forms.now
  pub binds_long : length y.binds.now ≡ length x.binds.now

-- a value with what it leaves, or a refusal
pub data MOut : Type 0 where
  done : Value → M → MOut
  refused : ℕ → ℕ → MOut

abbrev pub out_of : M → Result Value Refusal → MOut
out_of m (Ok v) = done v m
out_of m (Err r) = refused (number_of r.0) r.1

-- the start of a chain of arguments with what it leaves, or a refusal
pub data MArgs : Type 0 where
  pushed : ℕ → M → MArgs
  stopped : ℕ → ℕ → MArgs

abbrev pub args_of : M → Result ℕ Refusal → MArgs
args_of m (Ok y) = pushed y m
args_of m (Err r) = stopped (number_of r.0) r.1

-- a phrase's kind and its first two operands, where its row of twelve numbers lies
abbrev pub kind : List ℕ → ℕ → ℕ
kind ph k = get_or ph (12 * k) 0

abbrev pub one : List ℕ → ℕ → ℕ
one ph k = get_or ph (12 * k + 1) 0

abbrev pub two : List ℕ → ℕ → ℕ
two ph k = get_or ph (12 * k + 2) 0

-- so many numbers from a place on
unfoldable pub listed : List ℕ → ℕ → ℕ → List ℕ
listed ph from zero = []
listed ph from (suc n) = get_or ph from 0 ∷ listed ph (from + 1) n

-- the closure of phrase a that is bound to itself as binding n
abbrev pub selfed : List ℕ → ℕ → ℕ → Value
selfed ph a n = closed (sort_of (kind ph a)) (closure_of a (n + 1))

-- what a variable gives
abbrev pub variable_of : ℕ → Option Value → Result Value Refusal
variable_of k r = ok_or r (record { 0 = NoBinding; 1 = k })

-- a value as a part of a proposition
abbrev pub part_of : Value → Option ℕ
part_of (Prop p) = Some p
part_of (Constructor c) = None
part_of (Rule r) = None
part_of (Function f) = None
part_of (Method f) = None

-- propositions bound one after another, from binding n on, on the chain env: what the buffer then holds, and where the chain starts
unfoldable pub chained : List ℕ → ℕ → ℕ → List ℕ → List ℕ
chained t n env [] = t
chained t n env (p ∷ ps) = chained (sets t (4 * n) (numbers_of (Prop p) env)) (n + 1) (n + 1) ps

unfoldable pub outermost : ℕ → ℕ → List ℕ → ℕ
outermost n env [] = env
outermost n env (p ∷ ps) = outermost (n + 1) (n + 1) ps

-- the proposition that constructor c makes of p and q, formed in the table
pub record Made (c p q : ℕ) (st : State) (t₀ t : List ℕ) (x : Value × State) : Type 0 where
  pub formed : Formed
  pub outcome : x ≡ (Prop formed.at, counters formed.size st.bindings st.remaining.0)
  pub interned : Interned (word (3 + c) p q) st.props t₀ t formed
