-- What the functions promise: from every text, propositions and bindings that the state stands for, the answer is the language's.
use Rattle.std.specs.Prelude.{◌≡◌, List, ◌++◌, ℕ, ◌+◌, ◌*◌, ◌≤◌, ◌<◌, length, get_or, take, drop}
use Rattle.language.specs.Form.{Form}
use Rattle.language.specs.Values.{Val, Env, Out, out, stop, with_all, with_forms, scope}
use Rattle.language.specs.Patterns.{choose, on_choice}
use Rattle.language.specs.Run.{values, called, evaluate_step, evaluate}
use Rattle.forms.specs.Table.{tree, Table}
use Rattle.records.specs.Rows.{clauses_of}
use Rattle.bindings.specs.declared.Value.{Value}
use Rattle.bindings.specs.Numbers.{Kept}
use Rattle.bindings.specs.Stands.{Stands, Chain}
use Rattle.expressions.specs.Machine.{Shared, M, MOut, done, refused, MArgs, pushed, stopped, kind, two, listed}
use Rattle.expressions.specs.Asked.{Text, Row, World}

-- from m to m' the table grew by gs; bindings are only added; at most a propositions and b bindings are used beyond what the work spent pays for
pub record Grew (a b : ℕ) (m m' : M) (fs gs : List Form) : Type 0 where
  pub table : Table (take m'.st.props m'.forms) (fs ++ gs)
  pub kept : Kept m.binds m'.binds m.st.bindings
  pub more : m.st.bindings ≤ m'.st.bindings
  pub props : m'.st.props + 4 * m'.st.remaining.0 ≤ m.st.props + 4 * m.st.remaining.0 + a
  pub bindings : m'.st.bindings + 4 * m'.st.remaining.0 ≤ m.st.bindings + 4 * m.st.remaining.0 + b
  pub forms_long : length m'.forms ≡ length m.forms
  pub binds_long : length m'.binds ≡ length m.binds

-- the machine's answer is the language's
unfoldable pub Meets : ℕ → ℕ → List (List ℕ) → M → List Form → MOut → Out Val → Type 0
Meets a b rows m fs (done v m') (out X w) =
    (gs : List Form) × Grew a b m m' fs gs × Stands rows (fs ++ gs) m'.binds m'.st.bindings X v × (m'.st.remaining.0 ≡ w)
Meets a b rows m fs (done v m') (stop x y) = ⊥
Meets a b rows m fs (refused x y) (out X w) = ⊥
Meets a b rows m fs (refused x y) (stop n k) = (x ≡ n) × (y ≡ k)

-- the answer for expression k in the bindings at env, with nesting d left
pub record Evaluated (s : Shared) (d env k : ℕ) (m : M) (o : MOut) : Type 0 where
  pub meets : (x : Text) (fs : List Form) (e : Env) → World x fs s m → Row x k → Chain x.rows fs m.binds m.st.bindings e env →
      Meets 0 0 x.rows m fs o (evaluate x.phrases d e k m.st.remaining.0)

-- the same, once it is entered: its unit of work pays for four propositions and four bindings
pub record Stepped (s : Shared) (d env k : ℕ) (m : M) (o : MOut) : Type 0 where
  pub meets : (x : Text) (fs : List Form) (e : Env) → World x fs s m → Row x k → Chain x.rows fs m.binds m.st.bindings e env →
      Meets 4 4 x.rows m fs o (evaluate_step x.phrases (evaluate x.phrases d) e k m.st.remaining.0)

-- a list of arguments: their values stand on the bindings f
unfoldable pub MeetsArgs : ℕ → List (List ℕ) → M → List Form → Env → MArgs → Out (List Val) → Type 0
MeetsArgs left rows m fs f (pushed y m') (out vs w) =
    (gs : List Form) × Grew 0 left m m' fs gs × Chain rows (fs ++ gs) m'.binds m'.st.bindings (with_all f vs) y × (length vs ≡ left) × (m'.st.remaining.0 ≡ w)
MeetsArgs left rows m fs f (pushed y m') (stop a b) = ⊥
MeetsArgs left rows m fs f (stopped a b) (out vs w) = ⊥
MeetsArgs left rows m fs f (stopped a b) (stop n k) = (a ≡ n) × (b ≡ k)

pub record Listed (s : Shared) (d env onto from left : ℕ) (m : M) (o : MArgs) : Type 0 where
  pub meets : (x : Text) (fs : List Form) (e f : Env) → World x fs s m → ((i : ℕ) → i < left → Row x (get_or s.phrases (from + i) 0)) →
      Chain x.rows fs m.binds m.st.bindings e env → Chain x.rows fs m.binds m.st.bindings f onto →
      MeetsArgs left x.rows m fs f o (values (evaluate x.phrases d) e (listed s.phrases from left) m.st.remaining.0)

-- what an operator makes of its arguments, bound at y
pub record Called (s : Shared) (d : ℕ) (v : Value) (y n k : ℕ) (m : M) (o : MOut) : Type 0 where
  pub meets : (x : Text) (fs : List Form) (X : Val) (vs : List Val) → World x fs s m → Stands x.rows fs m.binds m.st.bindings X v →
      Chain x.rows fs m.binds m.st.bindings (with_all (scope X) vs) y → length vs ≡ n →
      Meets 1 0 x.rows m fs o (called (evaluate x.phrases d) X vs k m.st.remaining.0)

-- the first clause of the match k that fits the proposition p
pub record Selected (s : Shared) (d env k p : ℕ) (m : M) (o : MOut) : Type 0 where
  pub meets : (x : Text) (fs : List Form) (e : Env) → World x fs s m → Row x k → kind s.phrases k ≡ 9 → p < length fs →
      Chain x.rows fs m.binds m.st.bindings e env →
      Meets 0 4 x.rows m fs o
      (on_choice (choose (clauses_of x.patterns (two s.phrases k) (drop (12 * k + 3) s.phrases)) (tree fs p)) k
      (λ b ps. evaluate x.phrases d (with_forms e ps) b m.st.remaining.0))
