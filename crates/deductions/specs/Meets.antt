-- What the functions promise: from every text, propositions, bindings and base that the state stands for, the answer is the language's.
use Rattle.std.specs.Prelude.{◌≡◌, List, [], ◌∷◌, ◌++◌, ℕ, ◌+◌, ◌*◌, ◌-◌, ◌≤◌, ◌<◌, length, get_or, take, drop, Option, Some, None}
use Rattle.language.specs.Form.{Form}
use Rattle.language.specs.Plain.{under}
use Rattle.language.specs.Values.{Val, Env, Out, out, stop, next, with_all, with_forms, scope}
use Rattle.language.specs.Patterns.{choose, on_choice}
use Rattle.language.specs.Run.{evaluate, Derived, derived, Argument, argument, arguments, values_of, lemmas, joined, after, applied, steps, deduce_step, deduce}
use Rattle.forms.specs.Table.{tree}
use Rattle.records.specs.Rows.{clauses_of}
use Rattle.bindings.specs.declared.Value.{Value}
use Rattle.bindings.specs.Stands.{Is, Stands, Chain}
use Rattle.tokens.specs.Tells.{Tells, TellsLemmas}
use Rattle.expressions.specs.Machine.{Shared, two, listed}
use Rattle.expressions.specs.Asked.{Text}
use Rattle.expressions.specs.Meets.{Grew as GrewE}
use Rattle.deductions.specs.Machine.{M, inner, remaining, bound, joining, MOut, concluded, refused, MOperand, got, lacking, MArgs, pushed, stopped}
use Rattle.deductions.specs.Asked.{In, Ins, Based, Setting}

-- from m to m' the table grew by gs, the tokens by ts, bindings are only added and the base's first b numbers are the same; at most a propositions,
-- c bindings and one token fewer than t are used beyond what the work spent pays for
pub record Grew (a c t b : ℕ) (m m' : M) (fs gs : List Form) (ts : List ℕ) : Type 0 where
  pub inner : GrewE a c (inner m) (inner m') fs gs
  pub base : (j : ℕ) → j < b → get_or m'.base j 0 ≡ get_or m.base j 0
  pub tokens : take m'.at.tokens m'.tokens ≡ take m.at.tokens m.tokens ++ ts
  pub many : m'.at.tokens ≡ m.at.tokens + length ts
  pub paid : m'.at.tokens + 11 * remaining m' + 1 ≤ m.at.tokens + 11 * remaining m + t
  pub base_long : length m'.base ≡ length m.base
  pub tokens_long : length m'.tokens ≡ length m.tokens

-- the machine's answer is the language's: the conclusion by its number, the proof by the tokens
unfoldable pub Meets : ℕ → ℕ → ℕ → ℕ → M → List Form → MOut → Out Derived → Type 0
unfolding Tells
Meets a c t b m fs (concluded p m') (out d w) =
    (gs : List Form) × (ts : List ℕ) × Grew a c t b m m' fs gs ts × Is (fs ++ gs) p d.conclusion × Tells (fs ++ gs) d.proof ts × (remaining m' ≡ w)
Meets a c t b m fs (concluded p m') (stop x y) = ⊥
Meets a c t b m fs (refused x y) (out d w) = ⊥
Meets a c t b m fs (refused x y) (stop n k) = (x ≡ n) × (y ≡ k)

-- the answer for deduction k in the bindings at env and the base's first b numbers, with nesting d left
pub record Deduced (s : Shared) (d env b k : ℕ) (m : M) (o : MOut) : Type 0 where
  pub meets : (x : Text) (fs : List Form) (e : Env) (β : List Form) → Setting x fs e β s m env b → In k x →
      Meets 0 0 0 b m fs o (deduce x.phrases d e β k (remaining m))

-- the same, once it is entered: its unit of work pays for four propositions, four bindings, eleven tokens and one number on the base
pub record Stepped (s : Shared) (d env b k : ℕ) (m : M) (o : MOut) : Type 0 where
  pub meets : (x : Text) (fs : List Form) (e : Env) (β : List Form) → Setting x fs e β s m env b → In k x →
      Meets 4 4 11 b m fs o (deduce_step x.phrases (evaluate x.phrases d) (deduce x.phrases d) e β k (remaining m))

-- the number of a lemma's conclusion, where there is a lemma
unfoldable pub Lemmas : List Form → Option ℕ → List Derived → Type 0
Lemmas fs (Some p) ds = (d : Derived) × (ds ≡ d ∷ []) × Is fs p d.conclusion
Lemmas fs None ds = ds ≡ []

-- a phrase of either class: its value, its lemma, and the tokens of the lemma; a lemma is paid for by the work that it spent
unfoldable pub MeetsOperand : ℕ → List (List ℕ) → M → List Form → MOperand → Out Argument → Type 0
unfolding Lemmas TellsLemmas Stands
MeetsOperand b rows m fs (got v l m') (out X w) =
    (gs : List Form) × (ts : List ℕ) × Grew 0 0 1 b m m' fs gs ts × Stands rows (fs ++ gs) m'.binds (bound m') X.value v
    × Lemmas (fs ++ gs) l X.lemma × TellsLemmas (fs ++ gs) X.lemma ts × (joining l + remaining m' ≤ remaining m) × (remaining m' ≡ w)
MeetsOperand b rows m fs (got v l m') (stop x y) = ⊥
MeetsOperand b rows m fs (lacking x y) (out X w) = ⊥
MeetsOperand b rows m fs (lacking x y) (stop n k) = (x ≡ n) × (y ≡ k)

pub record Fetched (s : Shared) (d env b k : ℕ) (m : M) (o : MOperand) : Type 0 where
  pub meets : (x : Text) (fs : List Form) (e : Env) (β : List Form) → Setting x fs e β s m env b → In k x →
      MeetsOperand b x.rows m fs o (argument x.phrases (evaluate x.phrases d) (deduce x.phrases d) e β k (remaining m))

-- the call k, once its operator has the value X: its arguments, then what the operator makes of them
pub record Calling (s : Shared) (d env b : ℕ) (v : Value) (n k : ℕ) (m : M) (o : MOut) : Type 0 where
  pub meets : (x : Text) (fs : List Form) (e : Env) (β : List Form) (X : Val) → Setting x fs e β s m env b → In k x →
      Stands x.rows fs m.binds (bound m) X v →
      Meets 4 4 11 b m fs o
      (next (arguments x.phrases (evaluate x.phrases d) (deduce x.phrases d) e β (listed s.phrases (12 * k + 3) n) (remaining m))
      (λ xs w. after (lemmas xs) (applied (deduce x.phrases d) X (joined (lemmas xs) β) (values_of xs) k w)))

-- a list of arguments: their values stand on the bindings f, their lemmas have joined the base β
unfoldable pub MeetsArgs : ℕ → ℕ → List (List ℕ) → M → List Form → Env → List Form → MArgs → Out (List Argument) → Type 0
unfolding TellsLemmas Stands
MeetsArgs left b rows m fs f β (pushed y c m') (out xs w) =
    (gs : List Form) × (ts : List ℕ) × Grew 0 left 1 b m m' fs gs ts
    × Chain rows (fs ++ gs) m'.binds (bound m') (with_all f (values_of xs)) y × (length (values_of xs) ≡ left)
    × TellsLemmas (fs ++ gs) (lemmas xs) ts × Based (fs ++ gs) m'.base c (joined (lemmas xs) β)
    × (b ≤ c) × (c + remaining m' ≤ b + remaining m) × (remaining m' ≡ w)
MeetsArgs left b rows m fs f β (pushed y c m') (stop n k) = ⊥
MeetsArgs left b rows m fs f β (stopped x y) (out xs w) = ⊥
MeetsArgs left b rows m fs f β (stopped x y) (stop n k) = (x ≡ n) × (y ≡ k)

pub record Listed (s : Shared) (d env b onto from left : ℕ) (m : M) (o : MArgs) : Type 0 where
  pub meets : (x : Text) (fs : List Form) (e f : Env) (β : List Form) → Setting x fs e β s m env b → Ins s.phrases from left x →
      Chain x.rows fs m.binds (bound m) f onto →
      MeetsArgs left b x.rows m fs f β o
      (arguments x.phrases (evaluate x.phrases d) (deduce x.phrases d) e β (listed s.phrases from left) (remaining m))

-- what an operator makes of its arguments, bound at y, in the base that the lemmas have joined
pub record Applying (s : Shared) (d : ℕ) (v : Value) (y b n k : ℕ) (m : M) (o : MOut) : Type 0 where
  pub meets : (x : Text) (fs : List Form) (X : Val) (vs : List Val) (β : List Form) → Setting x fs (with_all (scope X) vs) β s m y b →
      Stands x.rows fs m.binds (bound m) X v → length vs ≡ n → Meets 1 0 6 b m fs o (applied (deduce x.phrases d) X β vs k (remaining m))

-- a block's steps
pub record Stepping (s : Shared) (d env b from left : ℕ) (m : M) (o : MOut) : Type 0 where
  pub meets : (x : Text) (fs : List Form) (e : Env) (β : List Form) → Setting x fs e β s m env b → Ins s.phrases from left x →
      Meets 0 0 0 b m fs o (steps (deduce x.phrases d) e β (get_or s.phrases from 0) (listed s.phrases (from + 1) (left - 1)) (remaining m))

-- deduction k under the hypothesis p: its conclusion, and the proof that assumes p
pub record Supposing (s : Shared) (d env b p k : ℕ) (m : M) (o : MOut) : Type 0 where
  pub meets : (x : Text) (fs : List Form) (e : Env) (β : List Form) → Setting x fs e β s m env b → In k x → p < length fs →
      Meets 0 0 2 b m fs o (next (deduce x.phrases d e (tree fs p ∷ β) k (remaining m)) (λ y. out (derived y.conclusion (under (tree fs p) y.proof))))

-- the first clause of the dmatch k that fits the proposition p
pub record Selected (s : Shared) (d env b k p : ℕ) (m : M) (o : MOut) : Type 0 where
  pub meets : (x : Text) (fs : List Form) (e : Env) (β : List Form) → Setting x fs e β s m env b → In k x → p < length fs →
      Meets 0 4 0 b m fs o
      (on_choice (choose (clauses_of x.patterns (two s.phrases k) (drop (12 * k + 3) s.phrases)) (tree fs p)) k
      (λ j ps. deduce x.phrases d (with_forms e ps) β j (remaining m)))
