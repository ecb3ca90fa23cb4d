-- What the functions ask: that the state stands for a text, propositions, bindings and a base, and that there is room for what is left of the budget.
use Rattle.std.specs.Prelude.{◌≡◌, List, ℕ, ◌+◌, ◌*◌, ◌≤◌, ◌<◌, length, get_or}
use Rattle.language.specs.Form.{Form}
use Rattle.language.specs.Values.{Val, Env, with_all, scope}
use Rattle.bindings.specs.declared.Value.{Value}
use Rattle.bindings.specs.Stands.{Stands, Chain}
use Rattle.rules.specs.Base.{Alike, base_of}
use Rattle.expressions.specs.Machine.{Shared, kind, two}
use Rattle.expressions.specs.Asked.{Text, World, Room as RoomE}
use Rattle.deductions.specs.Machine.{M, inner, remaining, bound}

-- phrase k is a row of the text; so many phrases from a place on are
abbrev pub In : ℕ → Text → Type 0
In k x = k < length x.rows

abbrev pub Ins : List ℕ → ℕ → ℕ → Text → Type 0
Ins ph from left x = (i : ℕ) → i < left → get_or ph (from + i) 0 < length x.rows

-- the first b numbers of the stack s are numbers of the propositions fs, and those are the base β
pub record Based (fs : List Form) (s : List ℕ) (b : ℕ) (β : List Form) : Type 0 where
  pub low : (j : ℕ) → j < b → get_or s j 0 < length fs
  pub alike : Alike β (base_of fs s b)

-- the state stands for the text x, the propositions fs, the bindings e at env and the base β
pub record Setting (x : Text) (fs : List Form) (e : Env) (β : List Form) (s : Shared) (m : M) (env b : ℕ) : Type 0 where
  pub world : World x fs s (inner m)
  pub chain : Chain x.rows fs m.binds (bound m) e env
  pub based : Based fs m.base b β

-- room for a propositions, c bindings, t tokens and u numbers on a base of b, besides four propositions, four bindings, eleven tokens and one
-- number for each evaluation that may still begin
pub record Room (m : M) (b a c t u : ℕ) : Type 0 where
  pub inner : RoomE (inner m) a c
  pub tokens : m.at.tokens + 11 * remaining m + t ≤ length m.tokens
  pub base : b + remaining m + u ≤ length m.base
  pub short : length m.tokens ≤ 16384
  pub small : length m.base ≤ 16384

-- a run may go on in the bindings at env and the base's first b numbers; G says which phrases it may run
pub record Ready (G : Text → Type 0) (s : Shared) (m : M) (env b a c t u : ℕ) : Type 0 where
  pub text : Text
  pub formed : List Form
  pub bindings : Env
  pub basis : List Form
  pub setting : Setting text formed bindings basis s m env b
  pub row : G text
  pub room : Room m b a c t u

-- a call, its operator's value and how many arguments it has
pub record Callable (s : Shared) (m : M) (v : Value) (env b n k : ℕ) : Type 0 where
  pub ready : Ready (In k) s m env b 4 4 11 0
  pub operator : Val
  pub stands : Stands ready.text.rows ready.formed m.binds (bound m) operator v
  pub kind : kind s.phrases k ≡ 16
  pub count : n ≡ two s.phrases k

-- a list of arguments, left of them, whose phrases stand from a place on and whose values go on the chain onto
pub record Arglist (s : Shared) (m : M) (env b onto from left : ℕ) : Type 0 where
  pub ready : Ready (Ins s.phrases from left) s m env b 0 left 1 0
  pub under : Env
  pub below : Chain ready.text.rows ready.formed m.binds (bound m) under onto
  pub few : left ≤ 4
  pub inside : from + left ≤ length s.phrases

-- an operator and its n arguments, bound at y
pub record Applicable (s : Shared) (m : M) (v : Value) (y b n : ℕ) : Type 0 where
  pub ready : Ready (λ x. Unit {0}) s m y b 1 0 6 0
  pub operator : Val
  pub values : List Val
  pub stands : Stands ready.text.rows ready.formed m.binds (bound m) operator v
  pub spread : ready.bindings ≡ with_all (scope operator) values
  pub count : length values ≡ n

-- steps, left of them, whose phrases stand from a place on
pub record Steplist (s : Shared) (m : M) (env b from left : ℕ) : Type 0 where
  pub ready : Ready (Ins s.phrases from left) s m env b 0 0 1 0
  pub some : 1 ≤ left
  pub few : left ≤ 8
  pub inside : from + left ≤ length s.phrases
  pub kinds : (i : ℕ) → i < left → 16 ≤ kind s.phrases (get_or s.phrases (from + i) 0)

-- the hypothesis p, and the deduction d under it
pub record Hypothetical (s : Shared) (m : M) (env b p d : ℕ) : Type 0 where
  pub ready : Ready (In d) s m env b 0 0 2 1
  pub low : p < length ready.formed
  pub kind : 16 ≤ kind s.phrases d

-- a dmatch, and the proposition p that is its first phrase's value
pub record Matching (s : Shared) (m : M) (env b k p : ℕ) : Type 0 where
  pub ready : Ready (In k) s m env b 0 4 0 0
  pub kind : kind s.phrases k ≡ 22
  pub low : p < length ready.formed
