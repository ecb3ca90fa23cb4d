-- The state of a run as one value, answers with what they leave, and what the smallest functions give.
use Rattle.std.specs.Prelude.{◌≡◌, Bool, true, false, List, [], ◌∷◌, ◌++◌, ℕ, zero, suc, ◌+◌, ◌*◌, ◌-◌, ◌<◌, ◌≤◌, length, set, take, eqb, Option, Some, None, Result, Ok, Err}
use Rattle.std.proofs.lemmas.List.Edits.{sets}
use Rattle.language.specs.Numbered.{number_of}
use Rattle.language.specs.declared.refusal.Refusal.{Refusal}
use Rattle.language.specs.declared.refusal.Why.{Why}
use Rattle.language.specs.declared.refusal.Why.TheVariants.{WrongKind, AnnouncedDiffers, NotFalse}
use Rattle.language.specs.Form.{cond}
use Rattle.forms.specs.Word.{code, neg_r, bin_r}
use Rattle.forms.specs.Interned.{Interned}
use Rattle.forms.specs.declared.Formed.{Formed}
use Rattle.bindings.specs.declared.Value.{Value}
use Rattle.bindings.specs.declared.Value.TheVariants.{Prop, Constructor, Rule, Function, Method}
use Rattle.bindings.specs.Numbers.{value_at, next_at}
use Rattle.rules.specs.Applied.{Ruling}
use Rattle.expressions.specs.declared.State.{State}
use Rattle.expressions.specs.Machine.{counters, mk as mkE, M as ME}
use Rattle.deductions.specs.declared.Run.{Run}

-- what is formed, bound and left of the budget, and how many tokens are written
pub record Progress : Type 0 where
  pub state : State
  pub tokens : ℕ

-- the four buffers that change, and how far the run is
pub record M : Type 0 where
  pub forms : List ℕ
  pub binds : List ℕ
  pub base : List ℕ
  pub tokens : List ℕ
  pub at : Progress

abbrev pub mk : List ℕ → List ℕ → List ℕ → List ℕ → Progress → M
mk f b s t at = record { forms = f; binds = b; base = s; tokens = t; at = at }

abbrev pub progress : State → ℕ → Progress
progress st n = record { state = st; tokens = n }

-- what a run changes
abbrev pub run : Run → M
run x = mk x.machine.forms.now x.machine.binds.now x.base.now x.tokens.now (progress x.machine.state x.written)

-- both go over the same lent buffers, which are as long as they were, and read the same phrases and patterns
pub record Same (x y : Run) : Type 0 where
  pub forms : y.machine.forms.ghost_name ≡ x.machine.forms.ghost_name
  pub binds : y.machine.binds.ghost_name ≡ x.machine.binds.ghost_name
  pub base : y.base.ghost_name ≡ x.base.ghost_name
  pub tokens : y.tokens.ghost_name ≡ x.tokens.ghost_name
  pub phrases : y.machine.phrases ≡ x.machine.phrases
  pub patterns : y.machine.patterns ≡ x.machine.patterns
  pub forms_long : length y.machine.forms.now ≡ length x.machine.forms.now
  pub binds_long : length y.machine.binds.now ≡ length x.machine.binds.now
  pub base_long : length y.base.now ≡ length x.base.now
  pub tokens_long : length y.tokens.now ≡ length x.tokens.now

-- what expressions know of it
abbrev pub inner : M → ME
inner m = mkE m.forms m.binds m.at.state

-- what is left of the budget, and how many bindings are made
abbrev pub remaining : M → ℕ
remaining m = m.at.state.remaining.0

abbrev pub bound : M → ℕ
bound m = m.at.state.bindings

-- one unit of the budget spent
abbrev pub begun : Progress → Progress
begun at = progress (counters at.state.props at.state.bindings (at.state.remaining.0 - 1)) at.tokens

abbrev pub spent : M → M
spent m = mk m.forms m.binds m.base m.tokens (begun m.at)

-- an expression has run: table and bindings are new
abbrev pub moved : M → List ℕ → List ℕ → State → M
moved m f b st = mk f b m.base m.tokens (progress st m.at.tokens)

-- a conclusion with what it leaves, or a refusal
pub data MOut : Type 0 where
  concluded : ℕ → M → MOut
  refused : ℕ → ℕ → MOut

abbrev pub out_of : M → Result ℕ Refusal → MOut
out_of m (Ok p) = concluded p m
out_of m (Err r) = refused (number_of r.0) r.1

-- a phrase of either class that has run: its value, its lemma, and what it leaves
pub data MOperand : Type 0 where
  got : Value → Option ℕ → M → MOperand
  lacking : ℕ → ℕ → MOperand

abbrev pub operand_of : M → Result (Value × Option ℕ) Refusal → MOperand
operand_of m (Ok p) = got p.0 p.1 m
operand_of m (Err r) = lacking (number_of r.0) r.1

-- arguments that have run: the start of their chain, the base's count, and what they leave
pub data MArgs : Type 0 where
  pushed : ℕ → ℕ → M → MArgs
  stopped : ℕ → ℕ → MArgs

abbrev pub args_of : M → Result (ℕ × ℕ) Refusal → MArgs
args_of m (Ok p) = pushed p.0 p.1 m
args_of m (Err r) = stopped (number_of r.0) r.1

-- a lemma on the base's stack: what the buffer then holds, and how many numbers join
abbrev pub joined_at : List ℕ → ℕ → Option ℕ → List ℕ
joined_at s b (Some p) = set s b p
joined_at s b None = s

abbrev pub joining : Option ℕ → ℕ
joining (Some p) = 1
joining None = 0

-- the number fits a cell
abbrev pub LowLemma : Option ℕ → Type 0
LowLemma (Some p) = p < 16384
LowLemma None = Unit {0}

-- arguments read off a chain, the last first, all of which must be propositions
unfoldable pub taken_by : Value → (ℕ → Option (ℕ × ℕ × ℕ)) → Option (ℕ × ℕ × ℕ)
taken_by (Prop p) f = f p
taken_by (Constructor c) f = None
taken_by (Rule r) f = None
taken_by (Function c) f = None
taken_by (Method c) f = None

unfoldable pub taken_at : List ℕ → ℕ → ℕ → ℕ → ℕ → ℕ → Option (ℕ × ℕ × ℕ)
unfolding taken_by
taken_at t e zero x y z = Some (x, y, z)
taken_at t e (suc n) x y z = taken_by (value_at t (e - 1)) (λ p. taken_at t (next_at t (e - 1)) n p x y)

-- a chain that has so many bindings
unfoldable pub Long : List ℕ → ℕ → ℕ → Type 0
Long t e zero = Unit {0}
Long t e (suc n) = (0 < e) × (4 * (e - 1) + 4 ≤ length t) × Long t (next_at t (e - 1)) n

-- a rule's answer as a conclusion
unfoldable pub inferred_of : ℕ → Result Formed Why → Result ℕ Refusal
inferred_of k (Ok f) = Ok f.at
inferred_of k (Err w) = Err (record { 0 = w; 1 = k })

-- what rule r gives of n arguments x, y and z, and the tokens that tell it
pub record Inferred (at at' : Progress) (b r n x y z k : ℕ) (t₀ t s u₀ u : List ℕ) (c : Result ℕ Refusal) : Type 0 where
  pub answer : Result Formed Why
  pub ruling : Ruling t₀ at.state.props s b r x y z t answer
  pub outcome : c ≡ inferred_of k answer
  pub now : (f : Formed) → answer ≡ Ok f → at' ≡ progress (counters f.size at.state.bindings at.state.remaining.0) (at.tokens + 2 + n)
  pub told : (f : Formed) → answer ≡ Ok f → u ≡ sets u₀ at.tokens (0 ∷ r ∷ x ∷ y ∷ z ∷ [])

-- the tokens that follow a hypothesis' proof where it is refuted: false-elim, then modus-tollens at x and y
abbrev pub tollens : ℕ → ℕ → List ℕ
tollens x y = 1 ∷ 0 ∷ 15 ∷ 0 ∷ 2 ∷ x ∷ y ∷ []

-- p refuted: p⇒false, ¬false and ¬p are formed, and the tokens are written
pub record Refutation (p : ℕ) (at at' : Progress) (t₀ t u₀ u : List ℕ) (c : Result ℕ Refusal) : Type 0 where
  pub implied : Formed
  pub absurd : Formed
  pub denied : Formed
  pub once : List ℕ
  pub twice : List ℕ
  pub first : Interned (code (bin_r cond p 1)) at.state.props t₀ once implied
  pub second : Interned (code (neg_r 1)) implied.size once twice absurd
  pub third : Interned (code (neg_r p)) absurd.size twice t denied
  pub told : take (at.tokens + 7) u ≡ take at.tokens u₀ ++ tollens implied.at absurd.at
  pub outcome : c ≡ Ok denied.at
  pub now : at' ≡ progress (counters denied.size at.state.bindings at.state.remaining.0) (at.tokens + 7)

-- p refuted where q is false, else the refusal
pub record Refuted (p q k : ℕ) (at at' : Progress) (t₀ t u₀ u : List ℕ) (c : Result ℕ Refusal) : Type 0 where
  pub false : q ≡ 1 → Refutation p at at' t₀ t u₀ u c
  pub other : (q ≡ 1 → ⊥) → c ≡ Err (record { 0 = NotFalse; 1 = k })

-- an announced value against the conclusion q
unfoldable pub compared_by : Bool → ℕ → ℕ → Result ℕ Refusal
compared_by true q k = Ok q
compared_by false q k = Err (record { 0 = AnnouncedDiffers; 1 = k })

unfoldable pub compared_of : Value → ℕ → ℕ → Result ℕ Refusal
unfolding compared_by
compared_of (Prop p) q k = compared_by (eqb p q) q k
compared_of (Constructor c) q k = Err (record { 0 = WrongKind; 1 = k })
compared_of (Rule r) q k = Err (record { 0 = WrongKind; 1 = k })
compared_of (Function c) q k = Err (record { 0 = WrongKind; 1 = k })
compared_of (Method c) q k = Err (record { 0 = WrongKind; 1 = k })
