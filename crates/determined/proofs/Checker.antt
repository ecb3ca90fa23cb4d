-- The public functions of `checker`: each by the equations that its contract has.
use mathlib.Core.Path.{refl}
use mathlib.Core.List.{[]}
use Rattle.checker.proofs.Demanded.{check_once}
use Rattle.determined.specs.Once.{Once}
use Rattle.determined.specs.Checker.{Checker}
use Rattle.determined.proofs.Left.{pair, element}

pub checker : Checker
unfolding Once
checker = record {
  check = λ κs a z z' ws ws' x y.
      let (e, b) = check_once _ _ z z' _ _ _ _ _ _ _ _ _ _ _ _ _ _ _ x y in
      (e, pair refl (pair refl (pair (element [] 0 b) (pair (element [] 1 b) (pair (element [] 2 b) (pair (element [] 3 b) (pair (element [] 4 b) refl)))))));
}
