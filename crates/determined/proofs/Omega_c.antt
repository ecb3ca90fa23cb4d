-- The public functions of `omega_c`: each by the equations that its contract has.
use mathlib.Core.Path.{◌≡◌, refl, sym, ap, ◌∙◌}
use Prim.Native.Nat.{ℕ}
use mathlib.Core.List.{List, []}
use Rattle.checker.proofs.Demanded.{check_once}
use Rattle.doors.specs.Demands.{EvaluateOnce}
use Rattle.doors.proofs.Demanded.{evaluate_once}
use Rattle.omega_c.specs.Answers.{Evaluation, Check, evaluated, checked}
use Rattle.determined.specs.Once.{Once}
use Rattle.determined.specs.Omega_c.{Omega_c}
use Rattle.determined.proofs.Left.{pair, element}

-- the values that are handed back are those of one answer
evaluation_values : (s : List ℕ) (budget : ℕ) (vs vs' out₀ out out' : List ℕ) (bs₀ bs bs' : List (List ℕ)) → Evaluation s budget vs out₀ out bs₀ bs → Evaluation s budget vs' out₀ out' bs₀ bs' → vs ≡ vs'
unfolding EvaluateOnce
evaluation_values s budget vs vs' out₀ out out' bs₀ bs bs' x y =
    x.values_are ∙ ap evaluated (evaluate_once s budget x.answer y.answer out₀ out out' bs₀ bs bs' x.evaluates y.evaluates).0 ∙ sym y.values_are

check_values : (s bytes vs vs' ns₀ fs₀ ps₀ hs₀ bs₀ ns fs ps hs bs ns' fs' ps' hs' bs' : List ℕ) →
    Check s bytes vs ns₀ fs₀ ps₀ hs₀ bs₀ ns fs ps hs bs → Check s bytes vs' ns₀ fs₀ ps₀ hs₀ bs₀ ns' fs' ps' hs' bs' → vs ≡ vs'
check_values s bytes vs vs' ns₀ fs₀ ps₀ hs₀ bs₀ ns fs ps hs bs ns' fs' ps' hs' bs' x y =
    x.values_are ∙ ap checked (check_once s bytes x.answer y.answer ns₀ fs₀ ps₀ hs₀ bs₀ ns fs ps hs bs ns' fs' ps' hs' bs' x.checks y.checks).0 ∙ sym y.values_are

pub omega_c : Omega_c
unfolding Once EvaluateOnce
omega_c = record {
  waxdapple_evaluate = λ κs a z z' ws ws' x y.
      let (_, o, b) = evaluate_once _ _ x.answer y.answer _ _ _ _ _ _ x.evaluates y.evaluates in
      let v = evaluation_values _ _ _ _ _ _ _ _ _ _ x y in
      (element 0 0 v, pair refl (pair refl (pair (element [] 0 b) (pair (element [] 1 b) (pair (element [] 2 b) (pair (element [] 3 b) (pair (element [] 4 b) (pair (element [] 5 b) (pair (element [] 6 b) (pair o (pair (element 0 1 v) (pair (element 0 2 v) (pair (element 0 3 v) refl)))))))))))));
  waxdapple_check = λ κs a z z' ws ws' x y.
      let (_, b) = check_once _ _ x.answer y.answer _ _ _ _ _ _ _ _ _ _ _ _ _ _ _ x.checks y.checks in
      let v = check_values _ _ _ _ _ _ _ _ _ _ _ _ _ _ _ _ _ _ _ x y in
      (element 0 0 v, pair refl (pair refl (pair (element [] 0 b) (pair (element [] 1 b) (pair (element [] 2 b) (pair (element [] 3 b) (pair (element [] 4 b) (pair (element 0 1 v) (pair (element 0 2 v) refl)))))))));
}
