-- Values and bindings, what comes of a run, and the plain proof that goes with a conclusion.
use Rattle.std.specs.Prelude.{ℕ, List, [], ◌∷◌, Bool, true, false}
use Rattle.language.specs.Refusals.{no_binding, wrong_kind}
use Rattle.language.specs.Form.{Form}
use Rattle.language.specs.Syntax.{Sort}

infixl 20 ◌▸◌
mutual
  -- propositions, constructors, rules, functions and methods; a closure has its sort, whether it binds itself, its parameters, its body,
  -- and the bindings where it was written
  pub data Val : Type 0 where
    form : Form → Val
    con_v rule_v : ℕ → Val
    closure : Sort → Bool → ℕ → ℕ → Env → Val

  -- bindings, the innermost last
  pub data Env : Type 0 where
    empty : Env
    ◌▸◌ : Env → Val → Env

-- what comes of a run, with the budget left; or a refusal's number and place
pub data Out (A : Type 0) : Type 0 where
  out : A → ℕ → Out A
  stop : ℕ → ℕ → Out A

-- one run, then another that is handed what the first gave and left
unfoldable pub next : {A B : Type 0} → Out A → (A → ℕ → Out B) → Out B
next (out a w) f = f a w
next (stop n k) f = stop n k

-- a run where a test holds, else the refusal n at k
unfoldable pub must : {A : Type 0} → Bool → ℕ → ℕ → Out A → Out A
must true n k o = o
must false n k o = stop n k

-- the i-th binding, innermost is 0
unfoldable pub lookup : Env → ℕ → ℕ → ℕ → Out Val
lookup empty i k w = stop no_binding k
lookup (e ▸ v) ℕ.zero k w = out v w
lookup (e ▸ v) (ℕ.suc i) k w = lookup e i k w

-- parameters and pattern bindings bind left to right, so the last is 0
unfoldable pub with_all : Env → List Val → Env
with_all e [] = e
with_all e (v ∷ vs) = with_all (e ▸ v) vs

unfoldable pub with_forms : Env → List Form → Env
with_forms e [] = e
with_forms e (p ∷ ps) = with_forms (e ▸ form p) ps

-- the bindings under a closure's parameters: those where it was written and, where it binds itself, itself
unfoldable pub scope : Val → Env
scope (form p) = empty
scope (con_v c) = empty
scope (rule_v r) = empty
scope (closure s true n b e) = e ▸ closure s true n b e
scope (closure s false n b e) = e

-- the bindings in which a closure's body runs
unfoldable pub entered : Val → List Val → Env
unfolding scope with_all
entered v vs = with_all (scope v) vs

-- a value that must be a proposition
unfoldable pub as_form : {A : Type 0} → Val → ℕ → (Form → Out A) → Out A
as_form (form p) k f = f p
as_form (con_v c) k f = stop wrong_kind k
as_form (rule_v r) k f = stop wrong_kind k
as_form (closure s self n b e) k f = stop wrong_kind k

-- values that must all be propositions
unfoldable pub as_forms : {A : Type 0} → List Val → ℕ → (List Form → Out A) → Out A
unfolding as_form
as_forms [] k f = f []
as_forms (v ∷ vs) k f = as_form v k (λ p. as_forms vs k (λ ps. f (p ∷ ps)))
