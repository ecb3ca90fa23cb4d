-- The interpreter does exactly what the rules say; and what the rules give, and the work it takes, is one thing only.
-- `Obeys` and `Costs` are the two directions.
use Prim.Native.Nat.{ℕ, ◌+◌}
use native.Mathlib.Nat.{add_comm}
use mathlib.Core.Path.{◌≡◌}
use mathlib.Core.List.{List}
use mathlib.Core.Logic.{◌↔◌}
use Rattle.language.specs.Form.{Form}
use Rattle.language.specs.Syntax.{Phrase}
use Rattle.language.specs.Values.{Val, Env, Out, out}
use Rattle.language.specs.Run.{Derived}
use Rattle.language.specs.Derives.{Evaluates, Derives}
use Rattle.theorems.specs.Demands.{EvaluatesExactly, DeducesExactly}
use Rattle.theorems.proofs.Ran.{Ran, ended as ended_with}
use Rattle.theorems.proofs.Obeys.{evaluate_ran, deduce_ran}
use Rattle.theorems.proofs.Costs.{Costs, evaluate_costs, deduce_costs}

ran_out : {A : Type 0} {P : A → ℕ → Type 0} {w w' : ℕ} {a : A} → Ran P w (out a w') → (u : ℕ) × P a u × (u + w' ≡ w)
ran_out (ended_with u p e) = (u, p, e)

module _ {A : Type 0} {o : ℕ → Out A} where
  -- what a run costs and gives is one thing only
  costs_once : {a a' : A} {u u' : ℕ} → Costs o a u → Costs o a' u' → (a ≡ a') × (u ≡ u')
  costs_once {u = u} {u' = u'} x y =
      let p = x.leaves u' in
      let q = y.leaves u in
      (cc (p, q, add_comm u u'), cc (p, q, add_comm u u'))

  -- a run that obeys P, and whatever P allows, is P exactly
  exactly : (P : A → ℕ → Type 0) → ((w : ℕ) → Ran P w (o w)) → ((a : A) (u : ℕ) → P a u → Costs o a u) →
      (w w' : ℕ) (a : A) → (o w ≡ out a w') ↔ ((u : ℕ) × P a u × (u + w' ≡ w))
  exactly P ran costs w w' a = ((λ h. ran_out (rw h at (ran w))), (λ (u, x, h). rw (← h) ((costs a u x).leaves w')))

-- what the rules give, and the work, are determined
pub evaluates_determined : {fs : List Phrase} {n : ℕ} {e : Env} {k u u' : ℕ} {v v' : Val} →
    Evaluates fs n e k v u → Evaluates fs n e k v' u' → (v ≡ v') × (u ≡ u')
evaluates_determined x y = costs_once (evaluate_costs x) (evaluate_costs y)

pub determined : {fs : List Phrase} {n : ℕ} {e : Env} {β : List Form} {k u u' : ℕ} {d d' : Derived} →
    Derives fs n e β k d u → Derives fs n e β k d' u' → (d ≡ d') × (u ≡ u')
determined x y = costs_once (deduce_costs x) (deduce_costs y)

-- the interpreter does what the rules say, and nothing else
pub evaluates_exactly : EvaluatesExactly
unfolding EvaluatesExactly
evaluates_exactly fs n e k = exactly (Evaluates fs n e k) (evaluate_ran fs n e k) (λ v u x. evaluate_costs x)

pub interpreted : DeducesExactly
unfolding DeducesExactly
interpreted fs n e β k = exactly (Derives fs n e β k) (deduce_ran fs n e β k) (λ d u x. deduce_costs x)
