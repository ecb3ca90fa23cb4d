-- The public functions of `evaluator`: each by the equations that its contract has.
use mathlib.Core.Path.{refl}
use mathlib.Core.List.{[]}
use Rattle.doors.specs.Demands.{EvaluateOnce}
use Rattle.doors.proofs.Demanded.{evaluate_once}
use Rattle.determined.specs.Once.{Once}
use Rattle.determined.specs.Evaluator.{Evaluator}
use Rattle.determined.proofs.Left.{pair, element}

pub evaluator : Evaluator
unfolding Once EvaluateOnce
evaluator = record {
  evaluate = λ κs a z z' ws ws' x y.
      let (e, o, b) = evaluate_once _ _ z z' _ _ _ _ _ _ x y in
      (e, pair refl (pair refl (pair (element [] 0 b) (pair (element [] 1 b) (pair (element [] 2 b) (pair (element [] 3 b) (pair (element [] 4 b) (pair (element [] 5 b) (pair (element [] 6 b) (pair o refl))))))))));
}
